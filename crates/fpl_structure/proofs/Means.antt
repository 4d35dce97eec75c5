-- What calls give, by the calls below them, and what it means.
use Rattle.std.specs.Prelude.{◌≡◌, ℕ, zero, suc, ◌<◌, List, [], ◌∷◌, length, map, drop, get_or, All, Result, Ok, Err, IfOk}
use mathlib.Core.Path.{sym, refl, ap, ◌∙◌, subst}
use native.Mathlib.Omega.{arith}
use Rattle.math_linear.specs.Span.{IsRowOf}
use Rattle.math_structure.specs.Structure.{IsCentral, InIdeal}
use Rattle.fpl_numbers.specs.declared.number.Num.{Num}
use Rattle.fpl_numbers.specs.declared.number.Kind.{Kind}
use Rattle.fpl_numbers.specs.declared.number.Unfit.{Unfit}
use Rattle.fpl_numbers.specs.declared.number.Fault.{Fault}
use Rattle.fpl_numbers.specs.Kinds.{field_of}
use Rattle.fpl_numbers.specs.Results.{GivesBy, IsFault, map_ok, and_then}
use Rattle.fpl_rows.specs.Meaning.{AreRows}
use Rattle.math_algebra.specs.Tree.{Tree}
use Rattle.fpl_model.specs.declared.presentation.Presentation.{Presentation}
use Rattle.fpl_model.specs.Sound.{IsWithin}
use Rattle.fpl_table.specs.Plain.{PlainTable, table_in}
use Rattle.plain_elimination.specs.Plain.{Elimination, rows_of}
use Rattle.plain_elimination.specs.Spans.{ClosesTo}
use Rattle.plain_spans.specs.Plain.{begin, put_row, put_rows, closed_of, span_of, kernel_of}
use Rattle.plain_spans.proofs.Putting.{fault_part, fault_first}
use Rattle.plain_tables.specs.Holds.{Holds}
use Rattle.plain_structure.specs.Plain.{Rows, size, centre_rows, centre_of, lower_central_of, ideal_of}
use Rattle.plain_structure.specs.Means.{AreRowsOf, AreTerms, start_in}
use Rattle.plain_structure.proofs.Centre.{centre_means}
use Rattle.plain_structure.proofs.Series.{series_means}
use Rattle.plain_structure.proofs.Ideals.{ideal_means}

abbrev pub Formed : Type 0
Formed = List (Result (List Num) Unfit)

abbrev pub whole : Rows → Rows
whole rows = rows

-- an elimination that begins
pub begun : (e : Elimination) (kind k : Kind) (n m : ℕ) → e ≡ begin k m → k ≡ kind → m ≡ n → e ≡ begin kind n
begun e kind k n m is a b = is ∙ ap (λ j. begin j m) a ∙ ap (begin kind) b

pub rows_at : (e : Elimination) (kind : Kind) (n : ℕ) (rows : Rows) → e ≡ begin kind n → AreRows kind n rows → AreRows e.kind e.size rows
rows_at e kind n rows is h = subst (λ (x : Elimination). AreRows x.kind x.size rows) (sym is) h

-- a span, by its elimination
pub span_value : (kind : Kind) (n : ℕ) (rs : Formed) (b e : Elimination) (r : Result Rows Fault) → b ≡ begin kind n → put_rows rs b ≡ Ok e →
    GivesBy whole r (map_ok rows_of (closed_of e)) → GivesBy whole r (span_of kind n rs)
span_value kind n rs b e r is h k = subst (GivesBy whole r) (sym (ap (λ q. map_ok rows_of (and_then closed_of q)) (ap (put_rows rs) (sym is) ∙ h))) k

pub span_fault : (kind : Kind) (n : ℕ) (rs : Formed) (b : Elimination) (fault : Fault) → b ≡ begin kind n → IsFault fault (put_rows rs b) →
    IsFault fault (span_of kind n rs)
span_fault kind n rs b fault is h =
    fault_part rows_of fault (and_then closed_of (put_rows rs (begin kind n)))
    (fault_first closed_of fault (put_rows rs (begin kind n)) (subst (λ e. IsFault fault (put_rows rs e)) is h))

-- the row of one of the elements doesn't go in
pub element_stops : {X Y : Type 0} (value : Y → Result (List Num) Unfit) (of : X → Y) (kind : Kind) (n : ℕ) (xs ys : List X) (k : ℕ) (x : X)
    (row : List Num) (e : Elimination) (fault : Fault) → xs ≡ ys → put_rows (map value (map of xs)) (begin kind n) ≡ put_rows (map value (map of (drop k xs))) e →
    k < length xs → x ≡ get_or xs k x → value (of x) ≡ Ok row → IsFault fault (put_row (Ok row) e) → IsFault fault (span_of kind n (map value (map of ys)))
element_stops {X} {Y} value of kind n xs ys k x row e fault same left l at is h =
    subst (λ (zs : List X). IsFault fault (span_of kind n (map value (map of zs)))) same
    (span_fault kind n (map value (map of xs)) (begin kind n) fault refl
    (subst (IsFault fault)
    (sym (left ∙ ap (λ (zs : List X). put_rows (map value (map of zs)) e) (from xs k l at)
    ∙ ap (λ (r : Result (List Num) Unfit). put_rows (r ∷ map value (map of (drop (suc k) xs))) e) is))
    (fault_first (put_rows (map value (map of (drop (suc k) xs)))) fault (put_row (Ok row) e) h)))
  where
    from : (xs : List X) (k : ℕ) → k < length xs → x ≡ get_or xs k x → drop k xs ≡ x ∷ drop (suc k) xs
    from [] k l q = absurd (omega arith)
    from (y ∷ ys) zero l q = ap (λ z. z ∷ ys) (sym q)
    from (y ∷ ys) (suc k) l q = from ys k (omega arith) q

pub span_rows : (kind : Kind) (n : ℕ) (e : Elimination) (r : Result Rows Fault) → e.kind ≡ kind → e.size ≡ n → IfOk r (λ rows. ClosesTo e rows) →
    IfOk r (λ rows. AreRows kind n rows)
span_rows kind n e (Ok rows) k m h = subst (λ j. AreRows j n rows) k (subst (λ j. AreRows e.kind j rows) m h.closed.are_rows)
span_rows kind n e (Err fault) k m h = tt

-- the centre, by its kernel
module _ (T : PlainTable) (kind : Kind) (n : ℕ) (rows : Rows) (r : Result Rows Fault) (is_kind : kind ≡ T.kind) (is_size : n ≡ size T) where
  pub centre_value : map Ok rows ≡ centre_rows T → GivesBy whole r (kernel_of kind n (map Ok rows)) → GivesBy whole r (centre_of T)
  centre_value e h =
      subst (λ k. GivesBy whole r (kernel_of k (size T) (centre_rows T))) is_kind
      (subst (λ m. GivesBy whole r (kernel_of kind m (centre_rows T))) is_size (subst (λ rs. GivesBy whole r (kernel_of kind n rs)) e h))

pub centre_is : (p : Presentation) (T : PlainTable) (r : Result Rows Fault) → Holds p T → GivesBy whole r (centre_of T) →
    IfOk r (λ rows. AreRowsOf p.field T rows (IsCentral (field_of p.field) (table_in p.field T)))
centre_is p T (Ok rows) holds g = centre_means p T holds rows g
centre_is p T (Err fault) holds g = tt

-- the series, and ideals
pub series_is : (p : Presentation) (T : PlainTable) (terms : List Rows) → Holds p T → lower_central_of T ≡ Ok terms → AreTerms p.field T 0 terms
series_is p T terms holds e = series_means p T holds terms e

pub ideal_is : (p : Presentation) (T : PlainTable) (es : List (Tree Num)) (rows : Rows) → Holds p T → All (IsWithin p.field (length p.generators)) es →
    ideal_of T es ≡ Ok rows →
    AreRowsOf p.field T rows (InIdeal (field_of p.field) (table_in p.field T) (IsRowOf (field_of p.field) (length es) (start_in p.field T es)))
ideal_is p T es rows holds within e = ideal_means p T holds es within rows e
