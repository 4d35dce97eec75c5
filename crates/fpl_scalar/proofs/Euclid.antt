-- How many turns Euclid's algorithm takes: each but the first at least halves the product of the two numbers.
use Rattle.std.specs.Prelude.{ℕ, zero, suc, ◌≡◌, ◌≢◌, ◌<◌, ◌≤◌, ◌+◌, ◌*◌, ◌/◌, ◌%◌, ◌^◌, ◌⊎◌}
use Rattle.std.specs.Int.{IsGcd}
use mathlib.Core.Path.{refl, sym, ap, ◌∙◌, subst}
use mathlib.Core.Logic.{inl, inr}
use Prim.Native.Nat.{◌∣◌}
use native.Mathlib.Omega.{arith}
use native.Mathlib.Decide.{ℕ_discrete}
use native.Mathlib.Nat.{div-add-mod, mod-lt, mul-le-mul, mul-pos, pos_of_dvd_of_pos, le_of_dvd}
use Rattle.std.proofs.Common.{add-one}
use Rattle.std.proofs.Math.Nat.{pow-suc}
use Rattle.std.proofs.lemmas.Nat.{mul-lt}
use Rattle.std.proofs.lemmas.Nat.Gcd.{IsGcd-from_mod, IsGcd-from_zero, same_from_IsGcd}
use Rattle.math_fields.specs.Gcd.{gcd}
use Rattle.math_fields.proofs.Gcd.{gcd_is}

-- what is known of the two numbers after t turns
pub record AfterTurns (a b x y t : ℕ) : Type 0 where
  pub same : (g : ℕ) → IsGcd x y g → IsGcd a b g
  pub left : x < 2 ^ 128
  pub right : y < 2 ^ 128
  pub halved : x * y * 2 ^ t < 2 ^ 257
  pub ordered : (t ≡ 0) ⊎ (y ≤ x)

pub at_start : (a b : ℕ) → a < 2 ^ 128 → b < 2 ^ 128 → AfterTurns a b a b 0
at_start a b h k = record {
  same = λ g d. d;
  left = h;
  right = k;
  halved = (let m : a * b < 2 ^ 128 * 2 ^ 128 = mul-lt a b (2 ^ 128) (2 ^ 128) h k in omega arith);
  ordered = inl refl;
}

-- a turn over ordered numbers
halves : (x y q r p : ℕ) → y * q + r ≡ x → r < y → y ≤ x → y * r * (p * 2) ≤ x * y * p
halves x y zero r p e l m = absurd (omega arith)
halves x y (suc q) r p e l m = go (mul-le-mul (let k : 2 * r ≤ x = omega arith in k) (let k : y * p ≤ y * p = omega arith in k))
  where
    go : 2 * r * (y * p) ≤ x * (y * p) → y * r * (p * 2) ≤ x * y * p
    go h = omega arith

pub after_turn : (a b x y t : ℕ) → y ≢ 0 → AfterTurns a b x y t → AfterTurns a b y (x % y) (t + 1)
after_turn a b x y t some h = record {
  same = λ g d. h.same g (IsGcd-from_mod x y g d);
  left = h.right;
  right = (let l = h.right in omega arith);
  halved = go t (ℕ_discrete t 0) h.halved h.ordered;
  ordered = inr (omega arith);
}
  where
    rest_below : x % y < y
    rest_below = mod-lt x (omega arith)

    go : (t : ℕ) → Dec (t ≡ 0) → x * y * 2 ^ t < 2 ^ 257 → (t ≡ 0) ⊎ (y ≤ x) → y * (x % y) * 2 ^ (t + 1) < 2 ^ 257
    go t (yes e) m o = subst (λ w. y * (x % y) * 2 ^ (w + 1) < 2 ^ 257) (sym e) (let m : y * (x % y) < 2 ^ 128 * 2 ^ 128 =
        mul-lt y (x % y) (2 ^ 128) (2 ^ 128) h.right
        (let l = h.right in omega arith) in omega arith)
    go t (no d) m (inl e) = absurd (d e)
    go t (no d) m (inr k) = let s = halves x y (x / y) (x % y) (2 ^ t) (div-add-mod x y) rest_below k in let e : 2 ^ (t + 1) ≡ 2 ^ t * 2 = power t in
        rw e (omega arith)
      where
        power : (t : ℕ) → 2 ^ (t + 1) ≡ 2 ^ t * 2
        power t = ap (λ w. 2 ^ w) (add-one t) ∙ pow-suc 2 t

-- after all turns the right number is 0
pub last_turn : (a b x y : ℕ) → AfterTurns a b x y 257 → y ≡ 0
last_turn a b x y h = go 257 y (omega arith) (ℕ_discrete y 0) h.halved h.ordered
  where
    go : (t y : ℕ) → 0 < t → Dec (y ≡ 0) → x * y * 2 ^ 257 < 2 ^ 257 → (t ≡ 0) ⊎ (y ≤ x) → y ≡ 0
    go t y z (yes e) m o = e
    go t y z (no d) m (inl e) = absurd (omega arith)
    go t y z (no d) m (inr k) = let s : 0 < x * y = mul-pos (omega arith) (omega arith) in absurd (omega arith)

pub found : (a b x y t : ℕ) → y ≡ 0 → AfterTurns a b x y t → x ≡ gcd a b
found a b x y t e h = same_from_IsGcd a b x (gcd a b) (h.same x (IsGcd-from_zero x y e)) (gcd_is a b)

pub gcd_positive : (a b x : ℕ) → x ≡ gcd a b → 0 < b → 0 < x
gcd_positive a b x e some = pos_of_dvd_of_pos (subst (λ w. w ∣ b) (sym e) (gcd_is a b).1) some

pub gcd_within_right : (a b x : ℕ) → x ≡ gcd a b → 0 < b → x ≤ b
gcd_within_right a b x e some = le_of_dvd some (subst (λ w. w ∣ b) (sym e) (gcd_is a b).1)
