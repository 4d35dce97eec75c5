-- Euclid's algorithm finds the greatest common divisor.
use Rattle.std.specs.Prelude.{ℕ, zero, suc, ◌≡◌, ◌<◌, ◌+◌, ◌%◌, Bool, true, false, cond, nat_eq}
use Rattle.std.specs.Int.{IsGcd}
use mathlib.Core.Path.{refl}
use native.Mathlib.Omega.{arith}
use native.Mathlib.Nat.{mod-lt}
use Rattle.std.proofs.lemmas.Nat.Gcd.{IsGcd-from_zero, IsGcd-from_mod}
use Rattle.math_fields.specs.Gcd.{gcd_within, gcd}

is_zero : (b : ℕ) → nat_eq b 0 ≡ true → b ≡ 0
is_zero b e = grind arith

is_more : (b : ℕ) → nat_eq b 0 ≡ false → 0 < b
is_more b e = grind arith

gcd_within_is : (n a b : ℕ) → b < n → IsGcd a b (gcd_within n a b)
unfolding gcd_within
gcd_within_is zero a b l = absurd (omega arith)
gcd_within_is (suc n) a b l = go (nat_eq b 0) refl (λ k. gcd_within_is n b (a % b) k)
  where
    go : (t : Bool) → nat_eq b 0 ≡ t → (a % b < n → IsGcd b (a % b) (gcd_within n b (a % b))) → IsGcd a b (cond t a (gcd_within n b (a % b)))
    go true e h = IsGcd-from_zero a b (is_zero b e)
    go false e h = IsGcd-from_mod a b _ (h (let m : a % b < b = mod-lt a (is_more b e) in omega arith))

pub gcd_is : (a b : ℕ) → IsGcd a b (gcd a b)
unfolding gcd
gcd_is a b = gcd_within_is (b + 1) a b (omega arith)
