-- Theorems on the subspaces of a table, over a field K.
--
--   CentralIsAll       a central vector's bracket with each vector is 0
--   centre_row         the number at i is the coefficient of b_t in [b_i, b_j]
--   IsCentreRow        these rows, for all basis elements b_j and b_t
--   StaysWithin        brackets of basis elements are vectors of the table
--   CentreIsKernel     the centre is the kernel of these rows
--   IsUnitBracket      the bracket of a basis element and one of n rows
--   TermByRows         a term after the first is spanned by the brackets of basis elements with rows that span the term before
--   HasWeights         basis elements have weights from 1 to the table's, and brackets lie in the sum of the weights
--   WeightsStay        such a table's brackets are vectors of it
--   SeriesEnds         and the term after as many as its weight is 0
--   TermsFall          each term lies in the one before
--   IdealIsClosed      an ideal is a space that is closed under bracket with all vectors of T
--   IsClosedUnder      the rows span a space that is closed under bracket with T
--   IdealIsLeast       rows that span such a space that holds the given vectors span the whole ideal
--   ClosedByUnits      it is enough that brackets of basis elements with the rows stay in the span
--   IdealByRounds      rows within the ideal that hold the given vectors, and to which a round of brackets adds nothing, span exactly the ideal
--   IsRoundRow         the rows of a round: those before, and their brackets with basis elements
--   RoundsStayWithin   what rows of the ideal and a round of brackets span stays in it
--   RoundsStop         a round whose closed form has no more rows than before adds nothing
use Rattle.std.specs.Prelude.{ℕ, suc, ◌≡◌, ◌<◌, ◌≤◌, ◌+◌, ◌↔◌, ◌⊎◌, length, cond, nat_lt}
use Rattle.math_fields.specs.Field.{Field}
use Rattle.math_linear.specs.Vector.{Vector, vzero, place}
use Rattle.math_linear.specs.Linear.{IsSpace}
use Rattle.math_linear.specs.Span.{Spanned, InSpan, IsRowOf}
use Rattle.math_linear.specs.Closed.{IsClosed}
use Rattle.math_linear.specs.Kernel.{IsSolution}
use Rattle.math_algebra.specs.Table.{Table, weight_at, product, bracket, IsOf}
use Rattle.math_structure.specs.Structure.{IsVectorOf, IsCentral, term, InIdeal}

abbrev pub CentralIsAll : Field → Type 0
CentralIsAll K = (T : Table K) (z : Vector K) → IsCentral K T z → (x : Vector K) → IsVectorOf K T x → bracket K T z x ≡ vzero K

unfoldable pub centre_row : (K : Field) → Table K → ℕ → ℕ → Vector K
centre_row K T j t i = cond (nat_lt i (length T.basis)) (product K T i j t) K.nought

abbrev pub IsCentreRow : (K : Field) → Table K → Vector K → Type 0
IsCentreRow K T u = (j t : ℕ) × (j < length T.basis) × (t < length T.basis) × (u ≡ centre_row K T j t)

abbrev pub StaysWithin : (K : Field) → Table K → Type 0
StaysWithin K T = (i j : ℕ) → i < length T.basis → j < length T.basis → IsVectorOf K T (product K T i j)

abbrev pub CentreIsKernel : Field → Type 0
CentreIsKernel K = (T : Table K) → StaysWithin K T → (z : Vector K) → IsCentral K T z ↔ IsSolution K (length T.basis) (IsCentreRow K T) z

abbrev pub IsUnitBracket : (K : Field) → Table K → ℕ → (ℕ → Vector K) → Vector K → Type 0
IsUnitBracket K T n row v = (i j : ℕ) × (i < length T.basis) × (j < n) × (v ≡ bracket K T (place K i) (row j))

abbrev pub TermByRows : Field → Type 0
TermByRows K =
    (T : Table K) (k n : ℕ) (row : ℕ → Vector K) → ((v : Vector K) → InSpan K n row v ↔ term K T k v) → (v : Vector K) →
    Spanned K (IsUnitBracket K T n row) v ↔ term K T (suc k) v

pub record HasWeights (K : Field) (T : Table K) : Type 0 where
  pub positive : (i : ℕ) → i < length T.basis → 0 < weight_at T i
  pub within : (i : ℕ) → i < length T.basis → weight_at T i ≤ T.weight
  pub product_of : (i j : ℕ) → i < length T.basis → j < length T.basis → IsOf K T (weight_at T i + weight_at T j) (product K T i j)

abbrev pub WeightsStay : Field → Type 0
WeightsStay K = (T : Table K) → HasWeights K T → StaysWithin K T

abbrev pub SeriesEnds : Field → Type 0
SeriesEnds K = (T : Table K) → HasWeights K T → (v : Vector K) → term K T T.weight v → v ≡ vzero K

abbrev pub TermsFall : Field → Type 0
TermsFall K = (T : Table K) → StaysWithin K T → (k : ℕ) (v : Vector K) → term K T (suc k) v → term K T k v

abbrev pub IdealIsClosed : Field → Type 0
IdealIsClosed K =
    (T : Table K) (m : ℕ) (start : ℕ → Vector K) →
    IsSpace K (InIdeal K T (IsRowOf K m start)) ×
    ((x v : Vector K) → IsVectorOf K T x → InIdeal K T (IsRowOf K m start) v → InIdeal K T (IsRowOf K m start) (bracket K T x v))

abbrev pub IsClosedUnder : (K : Field) → Table K → ℕ → (ℕ → Vector K) → Type 0
IsClosedUnder K T n row = (x v : Vector K) → IsVectorOf K T x → InSpan K n row v → InSpan K n row (bracket K T x v)

abbrev pub IdealIsLeast : Field → Type 0
IdealIsLeast K =
    (T : Table K) (m : ℕ) (start : ℕ → Vector K) (n : ℕ) (row : ℕ → Vector K) → ((k : ℕ) → k < m → InSpan K n row (start k)) → IsClosedUnder K T n row →
    (v : Vector K) → InIdeal K T (IsRowOf K m start) v → InSpan K n row v

abbrev pub ClosedByUnits : Field → Type 0
ClosedByUnits K =
    (T : Table K) (n : ℕ) (row : ℕ → Vector K) → ((v : Vector K) → IsUnitBracket K T n row v → InSpan K n row v) → IsClosedUnder K T n row

abbrev pub IdealByRounds : Field → Type 0
IdealByRounds K =
    (T : Table K) (m : ℕ) (start : ℕ → Vector K) (n : ℕ) (row : ℕ → Vector K) → ((k : ℕ) → k < m → InSpan K n row (start k)) →
    ((i : ℕ) → i < n → InIdeal K T (IsRowOf K m start) (row i)) → ((v : Vector K) → IsUnitBracket K T n row v → InSpan K n row v) →
    (v : Vector K) → InSpan K n row v ↔ InIdeal K T (IsRowOf K m start) v

abbrev pub IsRoundRow : (K : Field) → Table K → ℕ → (ℕ → Vector K) → Vector K → Type 0
IsRoundRow K T n row v = IsRowOf K n row v ⊎ IsUnitBracket K T n row v

abbrev pub RoundsStayWithin : Field → Type 0
RoundsStayWithin K =
    (T : Table K) (m : ℕ) (start : ℕ → Vector K) (n : ℕ) (row : ℕ → Vector K) → ((i : ℕ) → i < n → InIdeal K T (IsRowOf K m start) (row i)) →
    (v : Vector K) → Spanned K (IsRoundRow K T n row) v → InIdeal K T (IsRowOf K m start) v

abbrev pub RoundsStop : Field → Type 0
RoundsStop K =
    (T : Table K) (n : ℕ) (row row' : ℕ → Vector K) (pivot pivot' : ℕ → ℕ) → IsClosed K n row pivot → IsClosed K n row' pivot' →
    ((v : Vector K) → InSpan K n row' v ↔ Spanned K (IsRoundRow K T n row) v) → (v : Vector K) → IsUnitBracket K T n row v → InSpan K n row v
