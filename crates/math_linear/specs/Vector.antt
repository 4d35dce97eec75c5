-- Vectors over a field: a number at each place, where places count from 0.
--
--   Vector     the vectors over K
--   vzero      the vector 0
--   vplus      the sum of two vectors
--   scale      a multiple of a vector
--   place      1 at a place, and 0 elsewhere
--   total      the sum of n vectors
--   EndsAt     a vector that is 0 from place n on
--   bilinear   a bilinear function, from its values at pairs of places below n
use Rattle.std.specs.Prelude.{ℕ, zero, suc, ◌≡◌, ◌≤◌, cond, nat_eq}
use Rattle.math_fields.specs.Field.{Field}

abbrev pub Vector : Field → Type 0
Vector K = ℕ → K.Carrier

unfoldable pub vzero : (K : Field) → Vector K
vzero K s = K.nought

unfoldable pub vplus : (K : Field) → Vector K → Vector K → Vector K
vplus K x y s = K.plus (x s) (y s)

unfoldable pub scale : (K : Field) → K.Carrier → Vector K → Vector K
scale K c x s = K.times c (x s)

unfoldable pub place : (K : Field) → ℕ → Vector K
place K i s = cond (nat_eq i s) K.unit K.nought

-- f 0 + .. + f (n - 1)
unfoldable pub total : (K : Field) → ℕ → (ℕ → Vector K) → Vector K
total K zero f = vzero K
total K (suc n) f = vplus K (total K n f) (f n)

abbrev pub EndsAt : (K : Field) → ℕ → Vector K → Type 0
EndsAt K n v = (s : ℕ) → n ≤ s → v s ≡ K.nought

-- the sum of x i * y j times form i j, for i and j below n
unfoldable pub bilinear : (K : Field) → ℕ → (ℕ → ℕ → Vector K) → Vector K → Vector K → Vector K
bilinear K n form x y = total K n (λ i. total K n (λ j. scale K (K.times (x i) (y j)) (form i j)))
