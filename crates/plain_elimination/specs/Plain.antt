-- The plain run of an elimination: exact numbers of any size, or the first operation that does not fit.
-- Places count from 0; positions, as leads are, from 1; steps from 1.
--
--   PivotRow                 a row with its lead, its greatest position that is not 0, and the step that made it
--   IsPivotRow kind n p      over n positions: 1 at its lead, 0 above, in numbers that are canonical and fit
--   Swept                    what is left of a row, and the terms that were taken off
--   sweep_of                 pivot rows taken off at the places below n, from the greatest down
--   Held                     pivot rows in the order in which they were kept, and the steps that made them
--   Elimination              the kind of field, the number of positions, and what is held
--   keep_of                  what is left of a row is scaled to lead 1 and kept, or found dependent
--   insert_of                a row is swept and kept: its lead, if it has one left, and what is then held
--   close_of                 for each pivot ascending, its row is swept below its lead by the closed rows already made
--   rows_of pivots           the rows alone
--   take_row, sweep_rows     a row swept by closed rows, from the last back to the first
use Rattle.std.specs.Prelude.{◌≡◌, ℕ, zero, suc, ◌+◌, ◌-◌, ◌<◌, ◌≤◌, List, [], ◌∷◌, ◌++◌, length, slice_index_or, map, Option, Some, None, Result, Ok, Bool, true, nat_eq, if◌then◌else◌}
use Rattle.std.specs.List.{find}
use Rattle.fpl_numbers.specs.declared.number.Num.{Num}
use Rattle.fpl_numbers.specs.declared.number.Kind.{Kind}
use Rattle.fpl_numbers.specs.declared.number.Unfit.{Unfit}
use Rattle.fpl_numbers.specs.Numbers.{is_nought, residue, negative_of, inverse_of}
use Rattle.fpl_numbers.specs.Results.{and_then, map_ok}
use Rattle.fpl_log.specs.declared.terms.Term.{Term}
use Rattle.fpl_log.specs.declared.step.Origin.{Origin}
use Rattle.fpl_log.specs.declared.step.Step.{Step}
use Rattle.fpl_log.specs.declared.step.Step.TheVariants.{Insert, Close}
use Rattle.fpl_scalar.specs.Vectors.{AreElements, axpy_of, scale_of}
use Rattle.fpl_rows.specs.Positions.{lead_of}

pub record PivotRow : Type 0 where
  pub lead : ℕ
  pub step : ℕ
  pub row : List Num

pub record IsPivotRow (kind : Kind) (n : ℕ) (p : PivotRow) : Type 0 where
  pub elements : AreElements kind p.row
  pub length_is : length p.row ≡ n
  pub from_one : 1 ≤ p.lead
  pub to_end : p.lead ≤ n
  pub leads : slice_index_or p.row (p.lead - 1) (residue 0) ≡ residue 1
  pub above : (t : ℕ) → p.lead ≤ t → t < n → is_nought (slice_index_or p.row t (residue 0)) ≡ true

pub record Swept : Type 0 where
  pub row : List Num
  pub terms : List Term

abbrev pub stands_at : ℕ → PivotRow → Bool
stands_at s p = nat_eq p.lead s

abbrev pub taken_off : Swept → PivotRow → Num → List Num → Swept
taken_off x p c row = record { row = row; terms = x.terms ++ (record { step = p.step; factor = c }) ∷ [] }

-- c times the pivot row, if there is one, is taken off
abbrev pub sweep_by : Kind → Option PivotRow → Num → Swept → Result Swept Unfit
sweep_by kind None c x = Ok x
sweep_by kind (Some p) c x =
    if is_nought c then Ok x else map_ok (λ row. taken_off x p c row) (axpy_of kind x.row (negative_of kind c) p.row)

abbrev pub sweep_at : Kind → List PivotRow → ℕ → Swept → Result Swept Unfit
sweep_at kind pivots s x = sweep_by kind (find (stands_at (s + 1)) pivots) (slice_index_or x.row s (residue 0)) x

abbrev pub sweep_of : Kind → List PivotRow → ℕ → Swept → Result Swept Unfit
sweep_of kind pivots zero x = Ok x
sweep_of kind pivots (suc s) x = and_then (λ y. sweep_of kind pivots s y) (sweep_at kind pivots s x)

pub record Held : Type 0 where
  pub pivots : List PivotRow
  pub steps : List Step

pub record Elimination : Type 0 where
  pub kind : Kind
  pub size : ℕ
  pub held : Held

-- a row with lead s, scaled by k
abbrev pub kept : Held → Origin → List Term → ℕ → Num → List Num → Held
kept h origin terms s k row = record {
  pivots = h.pivots ++ (record { lead = s; step = length h.steps + 1; row = row }) ∷ [];
  steps = h.steps ++ (Insert origin terms k) ∷ [];
}

abbrev pub keep_of : Kind → Held → Origin → Swept → Option ℕ → Result Held Unfit
keep_of kind h origin x None = Ok (record { pivots = h.pivots; steps = h.steps ++ (Insert origin x.terms (residue 0)) ∷ [] })
keep_of kind h origin x (Some s) =
    map_ok (λ row. kept h origin x.terms s (inverse_of kind (slice_index_or x.row (s - 1) (residue 0))) row)
    (scale_of kind (inverse_of kind (slice_index_or x.row (s - 1) (residue 0))) x.row)

pub record Inserted : Type 0 where
  pub lead : Option ℕ
  pub held : Held

abbrev pub inserted_as : Option ℕ → Held → Inserted
inserted_as lead h = record { lead = lead; held = h }

abbrev pub insert_of : Elimination → List Num → Origin → Result Inserted Unfit
insert_of e row origin =
    and_then (λ x. map_ok (λ h. inserted_as (lead_of x.row) h) (keep_of e.kind e.held origin x (lead_of x.row)))
    (sweep_of e.kind e.held.pivots e.size (record { row = row; terms = [] }))

abbrev pub closed_with : Held → ℕ → PivotRow → Swept → Held
closed_with h s p x = record {
  pivots = h.pivots ++ (record { lead = s + 1; step = length h.steps + 1; row = x.row }) ∷ [];
  steps = h.steps ++ (Close p.step x.terms) ∷ [];
}

-- the pivot row at place s, if there is one, is swept by the closed rows below
abbrev pub close_by : Kind → Option PivotRow → ℕ → Held → Result Held Unfit
close_by kind None s h = Ok h
close_by kind (Some p) s h = map_ok (λ x. closed_with h s p x) (sweep_of kind h.pivots s (record { row = p.row; terms = [] }))

abbrev pub close_at : Kind → List PivotRow → ℕ → Held → Result Held Unfit
close_at kind pivots s h = close_by kind (find (stands_at (s + 1)) pivots) s h

abbrev pub close_to : Kind → List PivotRow → ℕ → Held → Result Held Unfit
close_to kind pivots zero h = Ok h
close_to kind pivots (suc s) h = and_then (λ g. close_at kind pivots s g) (close_to kind pivots s h)

abbrev pub close_of : Elimination → Result Held Unfit
close_of e = close_to e.kind e.held.pivots e.size (record { pivots = []; steps = e.held.steps })

abbrev pub rows_of : List PivotRow → List (List Num)
rows_of pivots = map (λ p. p.row) pivots

-- the row u is taken off v as often as v has the lead of u
abbrev pub take_at : Kind → List Num → Option ℕ → List Num → Result (List Num) Unfit
take_at kind u None v = Ok v
take_at kind u (Some s) v =
    if is_nought (slice_index_or v (s - 1) (residue 0)) then Ok v else axpy_of kind v (negative_of kind (slice_index_or v (s - 1) (residue 0))) u

abbrev pub take_row : Kind → List Num → List Num → Result (List Num) Unfit
take_row kind u v = take_at kind u (lead_of u) v

abbrev pub sweep_rows : Kind → List (List Num) → List Num → Result (List Num) Unfit
sweep_rows kind [] v = Ok v
sweep_rows kind (u ∷ us) v = and_then (λ w. take_row kind u w) (sweep_rows kind us v)
