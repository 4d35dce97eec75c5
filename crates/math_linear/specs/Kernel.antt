-- Kernels: the vectors whose product sum with each row is 0.
--
--   product_sum   the sum of u i times x i, for i below n
--   IsSolution    a vector that is 0 from n on and whose product sum with each vector of S is 0
--   free_at       what the solution of the free place f has at a place with a row, and at one without
--   free_row      the solution of a free place f: 1 at f, 0 at the other free places, and at each pivot minus what its row has at f
--   IsFree        the solution of some place below n that has no row
use Rattle.std.specs.Prelude.{ℕ, zero, suc, ◌≡◌, ◌<◌, Option, Some, None}
use Rattle.math_fields.specs.Field.{Field}
use Rattle.math_linear.specs.Vector.{Vector, place, EndsAt}
use Rattle.math_linear.specs.Echelon.{Pivots}

unfoldable pub product_sum : (K : Field) → ℕ → Vector K → Vector K → K.Carrier
product_sum K zero u x = K.nought
product_sum K (suc n) u x = K.plus (product_sum K n u x) (K.times (u n) (x n))

pub record IsSolution (K : Field) (n : ℕ) (S : Vector K → Type 0) (x : Vector K) : Type 0 where
  pub past : EndsAt K n x
  pub solves : (u : Vector K) → S u → product_sum K n u x ≡ K.nought

unfoldable pub free_at : (K : Field) → Option (Vector K) → ℕ → ℕ → K.Carrier
free_at K None f s = place K f s
free_at K (Some u) f s = K.minus (u f)

unfoldable pub free_row : (K : Field) → Pivots K → ℕ → Vector K
free_row K at f s = free_at K (at s) f s

abbrev pub IsFree : (K : Field) → ℕ → Pivots K → Vector K → Type 0
IsFree K n at x = (f : ℕ) × ((f < n) × ((at f ≡ None) × (x ≡ free_row K at f)))
