-- Theorems of linear algebra over a field K.
--
--   SpansAreOne            a vector is a combination of n rows exactly where it is in the least space that holds them
--   SweepsToZero           sweeping by closed rows leaves 0 exactly in their span
--   SweepsInSpan           a vector minus its swept form is in the span
--   SweepsPivots           what is left is 0 at the pivots
--   SomeClosedList         what finitely many rows span has a closed list
--   OneClosedList          and no other
--   ReducesToZero          taking the rows of an echelon off leaves 0 exactly in their span
--   PutSpansMore           a row that is left, scaled to lead with 1, has a free place; with it the rows are an echelon and span the new row too
--   ClosesReduced          closing an echelon gives a reduced one with the same span
--   OneReduced             a span has one reduced echelon
--   ReducedIsClosed        the rows of a reduced echelon, in the order of their places, are a closed list
--   FreeRowsSolve          the solutions of a reduced echelon are what its free rows span
--   KernelOfRows           and so are the solutions of any rows with its span
use Rattle.std.specs.Prelude.{ℕ, ◌≡◌, ◌<◌, ◌↔◌, ◌⊎◌, None}
use Rattle.math_fields.specs.Field.{Field}
use Rattle.math_linear.specs.Vector.{Vector, vzero, vplus, scale, EndsAt}
use Rattle.math_linear.specs.Span.{Spanned, InSpan, IsRowOf}
use Rattle.math_linear.specs.Closed.{IsClosed, swept, ClosedForm}
use Rattle.math_linear.specs.Echelon.{Pivots, IsRow, IsEchelon, IsReduced, AreRowsOf, reduce, put, close}
use Rattle.math_linear.specs.Kernel.{IsSolution, IsFree}

abbrev pub SpansAreOne : Field → Type 0
SpansAreOne K = (n : ℕ) (row : ℕ → Vector K) (v : Vector K) → Spanned K (IsRowOf K n row) v ↔ InSpan K n row v

abbrev pub SweepsToZero : Field → Type 0
SweepsToZero K = (n : ℕ) (row : ℕ → Vector K) (pivot : ℕ → ℕ) → IsClosed K n row pivot → (v : Vector K) → (swept K n row pivot v ≡ vzero K) ↔ InSpan K n row v

abbrev pub SweepsInSpan : Field → Type 0
SweepsInSpan K = (n : ℕ) (row : ℕ → Vector K) (pivot : ℕ → ℕ) (v : Vector K) → InSpan K n row (vplus K v (scale K (K.minus K.unit) (swept K n row pivot v)))

abbrev pub SweepsPivots : Field → Type 0
SweepsPivots K = (n : ℕ) (row : ℕ → Vector K) (pivot : ℕ → ℕ) → IsClosed K n row pivot → (v : Vector K) (i : ℕ) → i < n →
    swept K n row pivot v (pivot i) ≡ K.nought

abbrev pub SomeClosedList : Field → Type 0
SomeClosedList K = (m n : ℕ) (row : ℕ → Vector K) → ((i : ℕ) → i < n → EndsAt K m (row i)) → ClosedForm K m (IsRowOf K n row)

abbrev pub OneClosedList : Field → Type 0
OneClosedList K =
    (n m : ℕ) (row row' : ℕ → Vector K) (pivot pivot' : ℕ → ℕ) → IsClosed K n row pivot → IsClosed K m row' pivot' →
    ((v : Vector K) → InSpan K n row v ↔ InSpan K m row' v) → (n ≡ m) × ((i : ℕ) → i < n → (pivot i ≡ pivot' i) × (row i ≡ row' i))

abbrev pub ReducesToZero : Field → Type 0
ReducesToZero K = (n : ℕ) (at : Pivots K) → IsEchelon K n at → (v : Vector K) → (reduce K at n v ≡ vzero K) ↔ Spanned K (IsRow K at) v

pub record IsPut (K : Field) (n : ℕ) (at : Pivots K) (v : Vector K) (s : ℕ) (u : Vector K) : Type 0 where
  pub free : at s ≡ None
  pub echelon : IsEchelon K n (put K at s u)
  pub spans : (y : Vector K) → Spanned K (IsRow K (put K at s u)) y ↔ Spanned K (λ x. IsRow K at x ⊎ (x ≡ v)) y

abbrev pub PutSpansMore : Field → Type 0
PutSpansMore K =
    (n : ℕ) (at : Pivots K) → IsEchelon K n at → (v : Vector K) (s : ℕ) (c : K.Carrier) → s < n → K.times c (reduce K at n v s) ≡ K.unit →
    ((t : ℕ) → s < t → reduce K at n v t ≡ K.nought) → IsPut K n at v s (scale K c (reduce K at n v))

abbrev pub ClosesReduced : Field → Type 0
ClosesReduced K =
    (n : ℕ) (at : Pivots K) → IsEchelon K n at → IsReduced K n (close K at n) × ((v : Vector K) → Spanned K (IsRow K (close K at n)) v ↔
    Spanned K (IsRow K at) v)

abbrev pub OneReduced : Field → Type 0
OneReduced K =
    (n : ℕ) (at at' : Pivots K) → IsReduced K n at → IsReduced K n at' → ((v : Vector K) → Spanned K (IsRow K at) v ↔ Spanned K (IsRow K at') v) →
    (s : ℕ) → at s ≡ at' s

abbrev pub ReducedIsClosed : Field → Type 0
ReducedIsClosed K =
    (n : ℕ) (at : Pivots K) → IsReduced K n at → (count : ℕ) (row : ℕ → Vector K) (pivot : ℕ → ℕ) → AreRowsOf K at count row pivot →
    IsClosed K count row pivot × ((v : Vector K) → InSpan K count row v ↔ Spanned K (IsRow K at) v)

abbrev pub FreeRowsSolve : Field → Type 0
FreeRowsSolve K = (n : ℕ) (at : Pivots K) → IsReduced K n at → (x : Vector K) → Spanned K (IsFree K n at) x ↔ IsSolution K n (IsRow K at) x

abbrev pub KernelOfRows : Field → Type 0
KernelOfRows K =
    (n : ℕ) (at : Pivots K) → IsReduced K n at → (count : ℕ) (row : ℕ → Vector K) → ((v : Vector K) → Spanned K (IsRow K at) v ↔ InSpan K count row v) →
    (x : Vector K) → Spanned K (IsFree K n at) x ↔ IsSolution K n (IsRowOf K count row) x
