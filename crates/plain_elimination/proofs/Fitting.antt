-- Where each part of an elimination fits, so does the whole; over a prime every operation does.
use Rattle.std.specs.Prelude.{ℕ, zero, suc, ◌+◌, ◌-◌, List, [], ◌∷◌, get_or, slice_index_or, Option, Some, None, Result, Ok, Err, Bool, true, false, if◌then◌else◌}
use Rattle.std.specs.List.{find}
use mathlib.Core.Path.{refl}
use Rattle.fpl_numbers.specs.declared.number.Num.{Num}
use Rattle.fpl_numbers.specs.declared.number.Op.{Op}
use Rattle.fpl_numbers.specs.declared.number.Op.TheVariants.{Add, Mul}
use Rattle.fpl_numbers.specs.declared.number.Kind.{Kind}
use Rattle.fpl_numbers.specs.declared.number.Kind.TheVariants.{Prime}
use Rattle.fpl_numbers.specs.declared.number.Unfit.{Unfit}
use Rattle.fpl_numbers.specs.Numbers.{operate, result_of, is_nought, residue, negative_of, inverse_of}
use Rattle.fpl_numbers.specs.Results.{map_ok, and_then}
use Rattle.fpl_scalar.specs.Vectors.{fused, axpy_of, scale_of}
use Rattle.fpl_rows.specs.Positions.{lead_of}
use Rattle.fpl_log.specs.declared.step.Origin.{Origin}
use Rattle.plain_elimination.specs.Fitting.{DoesFit}
use Rattle.plain_elimination.specs.Plain.{PivotRow, Swept, stands_at, taken_off, sweep_by, sweep_at, sweep_of, Held, kept, keep_of, inserted_as, insert_of, closed_with, close_by, close_at, close_to, take_at, take_row, sweep_rows}

pub then_fits : {T U : Type 0} (f : T → Result U Unfit) (r : Result T Unfit) → DoesFit r → ((x : T) → DoesFit (f x)) → DoesFit (and_then f r)
then_fits f (Ok x) h k = k x
then_fits f (Err u) h k = absurd (let e = h.1 in let k : ⊥ = cc in k)

pub map_fits : {T U : Type 0} (f : T → U) (r : Result T Unfit) → DoesFit r → DoesFit (map_ok f r)
map_fits f (Ok x) h = (f x, refl)
map_fits f (Err u) h = absurd (let e = h.1 in let k : ⊥ = cc in k)

abbrev pub Always : Kind → Type 0
Always kind = (op : Op) (a b : Num) → DoesFit (operate kind op a b)

pub prime_always : (p : ℕ) → Always (Prime p)
prime_always p op a b = (result_of (Prime p) op a b, refl)

pub if_fits : {X : Type 0} (b : Bool) (r s : Result X Unfit) → DoesFit r → DoesFit s → DoesFit (if b then r else s)
if_fits true r s h k = h
if_fits false r s h k = k

module _ (kind : Kind) (always : Always kind) where
  pub axpy_fits : (xs : List Num) (c : Num) (ys : List Num) → DoesFit (axpy_of kind xs c ys)
  axpy_fits [] c ys = ([], refl)
  axpy_fits (x ∷ xs) c [] = (x ∷ xs, refl)
  axpy_fits (x ∷ xs) c (y ∷ ys) =
      then_fits (λ s. map_ok (λ rest. s ∷ rest) (axpy_of kind xs c ys)) (fused kind x c y) (then_fits (λ m. operate kind Add x m) _ (always Mul c y)
      (λ m. always Add x m))
      (λ s. map_fits (λ rest. s ∷ rest) _ (axpy_fits xs c ys))

  pub scale_fits : (c : Num) (xs : List Num) → DoesFit (scale_of kind c xs)
  scale_fits c [] = ([], refl)
  scale_fits c (x ∷ xs) = then_fits (λ m. map_ok (λ rest. m ∷ rest) (scale_of kind c xs)) _ (always Mul c x)
      (λ m. map_fits (λ rest. m ∷ rest) _ (scale_fits c xs))

  -- sweeping by closed rows
  take_fits : (u : List Num) (o : Option ℕ) (v : List Num) → DoesFit (take_at kind u o v)
  take_fits u None v = (v, refl)
  take_fits u (Some s) v = if_fits (is_nought (get_or v (s - 1) (residue 0))) _ _ (v, refl) (axpy_fits v (negative_of kind (get_or v (s - 1) (residue 0))) u)

  pub sweep_rows_fits : (us : List (List Num)) (v : List Num) → DoesFit (sweep_rows kind us v)
  sweep_rows_fits [] v = (v, refl)
  sweep_rows_fits (u ∷ us) v = then_fits (λ w. take_row kind u w) (sweep_rows kind us v) (sweep_rows_fits us v) (λ w. take_fits u (lead_of u) w)

  -- a row is inserted, and pivots are closed
  pub by_fits : (o : Option PivotRow) (c : Num) (x : Swept) → DoesFit (sweep_by kind o c x)
  by_fits None c x = (x, refl)
  by_fits (Some p) c x = if_fits (is_nought c) _ _ (x, refl) (map_fits (λ row. taken_off x p c row) _ (axpy_fits x.row (negative_of kind c) p.row))

  pub sweep_fits : (pivots : List PivotRow) (n : ℕ) (x : Swept) → DoesFit (sweep_of kind pivots n x)
  sweep_fits pivots zero x = (x, refl)
  sweep_fits pivots (suc s) x =
      then_fits (λ y. sweep_of kind pivots s y) (sweep_at kind pivots s x)
      (by_fits (find (stands_at (s + 1)) pivots) (slice_index_or x.row s (residue 0)) x) (λ y. sweep_fits pivots s y)

  pub keep_fits : (h : Held) (origin : Origin) (x : Swept) (o : Option ℕ) → DoesFit (keep_of kind h origin x o)
  keep_fits h origin x None = (_, refl)
  keep_fits h origin x (Some s) =
      map_fits (λ row. kept h origin x.terms s (inverse_of kind (slice_index_or x.row (s - 1) (residue 0))) row) _
      (scale_fits (inverse_of kind (slice_index_or x.row (s - 1) (residue 0))) x.row)

  pub insert_fits : (n : ℕ) (h : Held) (row : List Num) (origin : Origin) → DoesFit (insert_of (record { kind = kind; size = n; held = h }) row origin)
  insert_fits n h row origin =
      then_fits (λ x. map_ok (λ g. inserted_as (lead_of x.row) g) (keep_of kind h origin x (lead_of x.row)))
      (sweep_of kind h.pivots n (record { row = row; terms = [] }))
      (sweep_fits h.pivots n (record { row = row; terms = [] })) (λ x. map_fits (λ g. inserted_as (lead_of x.row) g) _ (keep_fits h origin x (lead_of x.row)))

  pub close_by_fits : (o : Option PivotRow) (s : ℕ) (h : Held) → DoesFit (close_by kind o s h)
  close_by_fits None s h = (h, refl)
  close_by_fits (Some p) s h = map_fits (λ x. closed_with h s p x) _ (sweep_fits h.pivots s (record { row = p.row; terms = [] }))

  pub close_fits : (pivots : List PivotRow) (n : ℕ) (h : Held) → DoesFit (close_to kind pivots n h)
  close_fits pivots zero h = (h, refl)
  close_fits pivots (suc s) h = then_fits (λ g. close_at kind pivots s g) (close_to kind pivots s h) (close_fits pivots s h)
      (λ g. close_by_fits (find (stands_at (s + 1)) pivots) s g)
