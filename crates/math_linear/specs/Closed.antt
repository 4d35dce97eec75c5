-- Closed lists of rows, as n, the rows below n and their pivots, and the closed form of what vectors span.
--
--   IsClosed       each row has 1 at its greatest nonzero place, its pivot; the pivots ascend; no row is nonzero at another's pivot
--   swept          what is left of a vector when each row is taken off as often as the vector has its pivot
--   IsClosedForm   n closed rows that end at place m and span what the vectors of S span
--   ClosedForm     such rows
use Rattle.std.specs.Prelude.{ℕ, ◌≡◌, ◌≢◌, ◌<◌}
use Rattle.math_fields.specs.Field.{Field}
use Rattle.math_linear.specs.Vector.{Vector, vplus, scale, EndsAt}
use Rattle.math_linear.specs.Span.{combination, SpansKind}

pub record IsClosed (K : Field) (n : ℕ) (row : ℕ → Vector K) (pivot : ℕ → ℕ) : Type 0 where
  pub leads : (i : ℕ) → i < n → row i (pivot i) ≡ K.unit
  pub above : (i s : ℕ) → i < n → pivot i < s → row i s ≡ K.nought
  pub ascend : (i j : ℕ) → i < j → j < n → pivot i < pivot j
  pub apart : (i j : ℕ) → i < n → j < n → i ≢ j → row i (pivot j) ≡ K.nought

abbrev pub swept : (K : Field) → ℕ → (ℕ → Vector K) → (ℕ → ℕ) → Vector K → Vector K
swept K n row pivot v = vplus K v (scale K (K.minus K.unit) (combination K n row (λ i. v (pivot i))))

pub record IsClosedForm (K : Field) (m : ℕ) (S : Vector K → Type 0) (n : ℕ) (row : ℕ → Vector K) (pivot : ℕ → ℕ) : Type 0 where
  pub closed : IsClosed K n row pivot
  pub spans : SpansKind K S n row
  pub ends : (i : ℕ) → i < n → EndsAt K m (row i)

pub record ClosedForm (K : Field) (m : ℕ) (S : Vector K → Type 0) : Type 0 where
  pub n : ℕ
  pub row : ℕ → Vector K
  pub pivot : ℕ → ℕ
  pub form : IsClosedForm K m S n row pivot
