-- Spans of vectors.
--
--   Spanned       the span of the vectors of which S holds, as the least space that holds them
--   combination   the sum of c i times row i, for the rows below n
--   InSpan        the span of the n rows row 0, .., row (n - 1), as their combinations
--   IsRowOf       one of these n rows
--   SpansKind     the n rows span what the vectors of a kind span
use Rattle.std.specs.Prelude.{ℕ, ◌≡◌, ◌<◌}
use Rattle.math_fields.specs.Field.{Field}
use Rattle.math_linear.specs.Vector.{Vector, vzero, vplus, scale, total}

pub data Spanned (K : Field) (S : Vector K → Type 0) : Vector K → Type 0 where
  span_kind : (v : Vector K) → S v → Spanned K S v
  span_none : Spanned K S (vzero K)
  span_sum : (v w : Vector K) → Spanned K S v → Spanned K S w → Spanned K S (vplus K v w)
  span_multiple : (c : K.Carrier) (v : Vector K) → Spanned K S v → Spanned K S (scale K c v)

abbrev pub combination : (K : Field) → ℕ → (ℕ → Vector K) → (ℕ → K.Carrier) → Vector K
combination K n row c = total K n (λ i. scale K (c i) (row i))

abbrev pub InSpan : (K : Field) → ℕ → (ℕ → Vector K) → Vector K → Type 0
InSpan K n row v = (c : ℕ → K.Carrier) × (v ≡ combination K n row c)

abbrev pub IsRowOf : (K : Field) → ℕ → (ℕ → Vector K) → Vector K → Type 0
IsRowOf K n row v = (i : ℕ) × (i < n) × (v ≡ row i)

pub record SpansKind (K : Field) (Kind : Vector K → Type 0) (n : ℕ) (row : ℕ → Vector K) : Type 0 where
  pub each : (v : Vector K) → Kind v → InSpan K n row v
  pub from : (i : ℕ) → i < n → Spanned K Kind (row i)
