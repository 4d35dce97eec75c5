-- Theorems on subspaces, over a field K.
--
--   CountBounded          closed rows that end at place m are at most m
--   CountGrows            the closed form of a space within another has at most as many rows
--   EqualCounts           and where it has as many, the two spaces are one
--   QuotientRepresented   the closed rows of Z whose pivot is no pivot of the closed rows of a subspace B represent Z modulo B
--   KernelHasForm         what the solutions of a reduced echelon span has a closed form
--   FreeRowsForm          the closed form of its free rows is that of its solutions
--   ImagesSpan            what a bilinear function gives on the spans of two lists is spanned by what it gives on the lists
--   LeastIsLeast          Least, of given vectors, is a space, and within the span of any rows that holds them and is closed under the functions
--   LeastBySpan           rows within it whose span holds the given vectors, and to which linear functions add nothing, span exactly it
use Rattle.std.specs.Prelude.{ℕ, ◌≢◌, ◌<◌, ◌≤◌, ◌↔◌}
use Rattle.math_fields.specs.Field.{Field}
use Rattle.math_linear.specs.Vector.{Vector, EndsAt}
use Rattle.math_linear.specs.Linear.{IsLinear, IsBilinear, IsSpace}
use Rattle.math_linear.specs.Span.{Spanned, InSpan, IsRowOf}
use Rattle.math_linear.specs.Closed.{IsClosed, IsClosedForm, ClosedForm}
use Rattle.math_linear.specs.Echelon.{Pivots, IsRow, IsReduced}
use Rattle.math_linear.specs.Kernel.{IsSolution, IsFree}
use Rattle.math_algebra.specs.Extending.{AreThose}
use Rattle.math_subspaces.specs.Subspaces.{Represents, IsImage, Least}

abbrev pub CountBounded : Field → Type 0
CountBounded K = (m n : ℕ) (row : ℕ → Vector K) (pivot : ℕ → ℕ) → IsClosed K n row pivot → ((i : ℕ) → i < n → EndsAt K m (row i)) → n ≤ m

abbrev pub CountGrows : Field → Type 0
CountGrows K =
    (n m : ℕ) (row row' : ℕ → Vector K) (pivot pivot' : ℕ → ℕ) → IsClosed K n row pivot → IsClosed K m row' pivot' →
    ((v : Vector K) → InSpan K n row v → InSpan K m row' v) → n ≤ m

abbrev pub EqualCounts : Field → Type 0
EqualCounts K =
    (n : ℕ) (row row' : ℕ → Vector K) (pivot pivot' : ℕ → ℕ) → IsClosed K n row pivot → IsClosed K n row' pivot' →
    ((v : Vector K) → InSpan K n row v → InSpan K n row' v) → (v : Vector K) → InSpan K n row' v → InSpan K n row v

abbrev pub QuotientRepresented : Field → Type 0
QuotientRepresented K =
    (n m : ℕ) (row row' : ℕ → Vector K) (pivot pivot' : ℕ → ℕ) → IsClosed K n row pivot → IsClosed K m row' pivot' →
    ((v : Vector K) → InSpan K m row' v → InSpan K n row v) → (count : ℕ) (slot : ℕ → ℕ) →
    AreThose n (λ i. (j : ℕ) → j < m → pivot' j ≢ pivot i) count slot → Represents K (InSpan K n row) (InSpan K m row') count (λ k. row (slot k))

abbrev pub KernelHasForm : Field → Type 0
KernelHasForm K = (n : ℕ) (at : Pivots K) → IsReduced K n at → ClosedForm K n (IsSolution K n (IsRow K at))

abbrev pub FreeRowsForm : Field → Type 0
FreeRowsForm K =
    (n : ℕ) (at : Pivots K) → IsReduced K n at → (count : ℕ) (row : ℕ → Vector K) (pivot : ℕ → ℕ) → IsClosedForm K n (IsFree K n at) count row pivot →
    IsClosedForm K n (IsSolution K n (IsRow K at)) count row pivot

abbrev pub ImagesSpan : Field → Type 0
ImagesSpan K =
    (f : Vector K → Vector K → Vector K) → IsBilinear K f → (n m : ℕ) (row row' : ℕ → Vector K) (v : Vector K) →
    Spanned K (IsImage K f (InSpan K n row) (InSpan K m row')) v ↔ Spanned K (IsImage K f (IsRowOf K n row) (IsRowOf K m row')) v

abbrev pub LeastIsLeast : Field → Type 0
LeastIsLeast K =
    (map : ℕ → Vector K → Vector K) (m : ℕ) (start : ℕ → Vector K) →
    IsSpace K (Least K map (IsRowOf K m start))
    × ((n : ℕ) (row : ℕ → Vector K) → ((k : ℕ) → k < m → InSpan K n row (start k)) → ((i : ℕ) (v : Vector K) → InSpan K n row v → InSpan K n row (map i v)) →
    (v : Vector K) → Least K map (IsRowOf K m start) v → InSpan K n row v)

abbrev pub LeastBySpan : Field → Type 0
LeastBySpan K =
    (map : ℕ → Vector K → Vector K) → ((i : ℕ) → IsLinear K (map i)) → (m : ℕ) (start : ℕ → Vector K) (n : ℕ) (row : ℕ → Vector K) →
    ((k : ℕ) → k < m → InSpan K n row (start k)) → ((j : ℕ) → j < n → Least K map (IsRowOf K m start) (row j)) →
    ((i j : ℕ) → j < n → InSpan K n row (map i (row j))) → (v : Vector K) → InSpan K n row v ↔ Least K map (IsRowOf K m start) v
