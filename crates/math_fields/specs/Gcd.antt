-- Greatest common divisors.
--
--   gcd_within n a b    Euclid's algorithm, in at most n turns
--   gcd a b             the greatest common divisor
use Rattle.std.specs.Prelude.{ℕ, zero, suc, ◌+◌, ◌%◌, cond, nat_eq}

unfoldable pub gcd_within : ℕ → ℕ → ℕ → ℕ
gcd_within zero a b = a
gcd_within (suc n) a b = cond (nat_eq b 0) a (gcd_within n b (a % b))

unfoldable pub gcd : ℕ → ℕ → ℕ
gcd a b = gcd_within (b + 1) a b
