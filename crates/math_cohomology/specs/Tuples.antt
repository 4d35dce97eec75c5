-- Forms as vectors over the sorted tuples of a weight.
--
--   Singles              a numbering of the basis elements of weight w, from 0 up to a count
--   Pairs                a numbering of the regular pairs of weight w
--   one_of, two_of       the form of a vector over them
--   row_of1, row_of2     the vector of a form
--   cocycle_row1         the number at each basis element is the coboundary at b_i, b_j of the form that is 1 there
--   cocycle_row2         the same at b_i, b_j, b_k, of the form that is 1 at a pair
--   IsCocycleRow1        these rows at the regular pairs of weight w
--   IsCocycleRow2        at the sorted triples of weight w
--   coboundary_row       the coboundary of the form that is 1 at one basis element of weight w
--   CocyclesAreKernel1   the vectors of 1-cocycles are the kernel of the first rows
--   CocyclesAreKernel2   those of 2-cocycles are the kernel of the second
--   CoboundariesAreSpan  those of 2-coboundaries are what the coboundary rows span
--   LowRepresents1       closed rows of the first kernel represent H1
--   LowRepresents2       closed rows of the second kernel whose pivots are no pivots of closed rows of the coboundaries represent H2
use Rattle.std.specs.Prelude.{ℕ, ◌≡◌, ◌≢◌, ◌+◌, ◌<◌, ◌↔◌, length, cond, nat_lt, nat_eq}
use Rattle.math_fields.specs.Field.{Field}
use Rattle.math_linear.specs.Vector.{Vector, place, EndsAt}
use Rattle.math_linear.specs.Span.{InSpan}
use Rattle.math_linear.specs.Closed.{IsClosed}
use Rattle.math_linear.specs.Kernel.{IsSolution}
use Rattle.math_algebra.specs.Tree.{Parity, even, odd, Presentation}
use Rattle.math_algebra.specs.Table.{Table, weight_at, parity_at, product, IsRegular, ObeysLaw}
use Rattle.math_algebra.specs.Extending.{AreThose}
use Rattle.math_cohomology.specs.Forms.{One, Two, sign_at, coboundary1, coboundary2, IsCocycle1, IsCocycle2, IsCoboundary2, RepresentsH1, RepresentsH2}
use Rattle.math_cohomology.specs.Laws.{IsSorted}

pub record Singles (K : Field) (T : Table K) (w count : ℕ) (at slot : ℕ → ℕ) : Type 0 where
  pub within : (s : ℕ) → s < count → at s < length T.basis
  pub weight : (s : ℕ) → s < count → weight_at T (at s) ≡ w
  pub back : (s : ℕ) → s < count → slot (at s) ≡ s
  pub below : (i : ℕ) → i < length T.basis → weight_at T i ≡ w → slot i < count
  pub there : (i : ℕ) → i < length T.basis → weight_at T i ≡ w → at (slot i) ≡ i

pub record Pairs (K : Field) (T : Table K) (w count : ℕ) (left right : ℕ → ℕ) (slot : ℕ → ℕ → ℕ) : Type 0 where
  pub left_within : (s : ℕ) → s < count → left s < length T.basis
  pub right_within : (s : ℕ) → s < count → right s < length T.basis
  pub regular : (s : ℕ) → s < count → IsRegular T (left s) (right s)
  pub weight : (s : ℕ) → s < count → weight_at T (left s) + weight_at T (right s) ≡ w
  pub back : (s : ℕ) → s < count → slot (left s) (right s) ≡ s
  pub below : (i j : ℕ) → j < length T.basis → IsRegular T i j → weight_at T i + weight_at T j ≡ w → slot i j < count
  pub there_left : (i j : ℕ) → j < length T.basis → IsRegular T i j → weight_at T i + weight_at T j ≡ w → left (slot i j) ≡ i
  pub there_right : (i j : ℕ) → j < length T.basis → IsRegular T i j → weight_at T i + weight_at T j ≡ w → right (slot i j) ≡ j

-- what a pair of an element with itself gives
abbrev pub if_odd : (K : Field) → Parity → K.Carrier → K.Carrier
if_odd K even x = K.nought
if_odd K odd x = x

unfoldable pub one_of : (K : Field) → Table K → ℕ → (ℕ → ℕ) → Vector K → One K
one_of K T w slot x i = cond (nat_eq (weight_at T i) w) (x (slot i)) K.nought

unfoldable pub two_of : (K : Field) → Table K → ℕ → (ℕ → ℕ → ℕ) → Vector K → Two K
two_of K T w slot x i j =
    cond (nat_eq (weight_at T i + weight_at T j) w)
    (cond (nat_lt i j) (x (slot i j)) (cond (nat_lt j i) (K.times (K.minus (sign_at K T i j)) (x (slot j i))) (if_odd K (parity_at T i) (x (slot i j)))))
    K.nought

unfoldable pub row_of1 : (K : Field) → ℕ → (ℕ → ℕ) → One K → Vector K
row_of1 K count at f s = cond (nat_lt s count) (f (at s)) K.nought

unfoldable pub row_of2 : (K : Field) → ℕ → (left right : ℕ → ℕ) → Two K → Vector K
row_of2 K count left right f s = cond (nat_lt s count) (f (left s) (right s)) K.nought

abbrev pub cocycle_row1 : (K : Field) → Table K → ℕ → (ℕ → ℕ) → ℕ → ℕ → Vector K
cocycle_row1 K T w slot i j s = coboundary1 K T (one_of K T w slot (place K s)) i j

abbrev pub cocycle_row2 : (K : Field) → Table K → ℕ → (ℕ → ℕ → ℕ) → ℕ → ℕ → ℕ → Vector K
cocycle_row2 K T w slot i j k s = coboundary2 K T (two_of K T w slot (place K s)) i j k

abbrev pub IsCocycleRow1 : (K : Field) → Table K → ℕ → (ℕ → ℕ) → Vector K → Type 0
IsCocycleRow1 K T w slot u =
    (i j : ℕ) × (j < length T.basis) × IsRegular T i j × (weight_at T i + weight_at T j ≡ w) × (u ≡ cocycle_row1 K T w slot i j)

abbrev pub IsCocycleRow2 : (K : Field) → Table K → ℕ → (ℕ → ℕ → ℕ) → Vector K → Type 0
IsCocycleRow2 K T w slot u =
    (i j k : ℕ) × (k < length T.basis) × IsSorted K T i j k × (weight_at T i + weight_at T j + weight_at T k ≡ w) × (u ≡ cocycle_row2 K T w slot i j k)

abbrev pub coboundary_row : (K : Field) → Table K → ℕ → (left right : ℕ → ℕ) → ℕ → Vector K
coboundary_row K T count left right e = row_of2 K count left right (λ i j. product K T i j e)

abbrev pub CocyclesAreKernel1 : Field → Type 0
CocyclesAreKernel1 K =
    (P : Presentation K.Carrier) (T : Table K) → ObeysLaw K P T → (w count : ℕ) (at slot : ℕ → ℕ) → Singles K T w count at slot → (x : Vector K) →
    IsSolution K count (IsCocycleRow1 K T w slot) x ↔ (EndsAt K count x × IsCocycle1 K T w (one_of K T w slot x))

abbrev pub CocyclesAreKernel2 : Field → Type 0
CocyclesAreKernel2 K =
    (P : Presentation K.Carrier) (T : Table K) → ObeysLaw K P T → (w count : ℕ) (left right : ℕ → ℕ) (slot : ℕ → ℕ → ℕ) → Pairs K T w count left right slot →
    (x : Vector K) →
    IsSolution K count (IsCocycleRow2 K T w slot) x ↔ (EndsAt K count x × IsCocycle2 K T w (two_of K T w slot x))

abbrev pub CoboundariesAreSpan : Field → Type 0
CoboundariesAreSpan K =
    (P : Presentation K.Carrier) (T : Table K) → ObeysLaw K P T → (w m count : ℕ) (at slot1 left right : ℕ → ℕ) (slot : ℕ → ℕ → ℕ) → Singles K T w m at slot1 →
    Pairs K T w count left right slot → (x : Vector K) →
    InSpan K m (λ e. coboundary_row K T count left right (at e)) x ↔ (EndsAt K count x × IsCoboundary2 K T w (two_of K T w slot x))

abbrev pub LowRepresents1 : Field → Type 0
LowRepresents1 K =
    (P : Presentation K.Carrier) (T : Table K) → ObeysLaw K P T → (w count : ℕ) (at slot : ℕ → ℕ) → Singles K T w count at slot →
    (n : ℕ) (row : ℕ → Vector K) (pivot : ℕ → ℕ) → IsClosed K n row pivot →
    ((x : Vector K) → InSpan K n row x ↔ IsSolution K count (IsCocycleRow1 K T w slot) x) →
    RepresentsH1 K T w n (λ k. one_of K T w slot (row k))

abbrev pub LowRepresents2 : Field → Type 0
LowRepresents2 K =
    (P : Presentation K.Carrier) (T : Table K) → ObeysLaw K P T → (w m count : ℕ) (at slot1 left right : ℕ → ℕ) (slot : ℕ → ℕ → ℕ) → Singles K T w m at slot1 →
    Pairs K T w count left right slot →
    (n n' : ℕ) (row row' : ℕ → Vector K) (pivot pivot' : ℕ → ℕ) → IsClosed K n row pivot → IsClosed K n' row' pivot' →
    ((x : Vector K) → InSpan K n row x ↔ IsSolution K count (IsCocycleRow2 K T w slot) x) →
    ((x : Vector K) → InSpan K n' row' x ↔ InSpan K m (λ e. coboundary_row K T count left right (at e)) x) →
    (number : ℕ) (chosen : ℕ → ℕ) → AreThose n (λ i. (j : ℕ) → j < n' → pivot' j ≢ pivot i) number chosen →
    RepresentsH2 K T w number (λ k. two_of K T w slot (row (chosen k)))
