-- Greatest common divisors, and numbers that have no common divisor.
use Rattle.std.specs.Prelude.{ℕ, zero, suc, ◌≡◌, ◌<◌, ◌%◌, ◌/◌, ◌+◌, ◌*◌}
use Rattle.std.specs.Int.{IsGcd}
use mathlib.Core.Path.{sym, ap, ◌∙◌, subst, subst₃}
use Prim.Native.Nat.{◌∣◌}
use native.Mathlib.Omega.{arith}
use native.Mathlib.Decide.{ℕ_discrete}
use native.Mathlib.Nat.{dvd_trans, dvd-mul_left, dvd-mul_right, dvd_of_mul-dvd-mul_right, mul-dvd-mul_right, div-add-mod, mod-lt, zero-mod, mul-lt-mul_of_pos_right, add-mul-mod_self_left, mod-eq_of_lt, mul-one, div-mul_cancel, one-dvd, dvd_antisymm, eq_of_mul-eq-mul_right}
use Rattle.std.proofs.lemmas.Nat.Gcd.{IsGcd-from_zero, IsGcd-from_mod, same_from_IsGcd, IsGcd-swap}

-- a common divisor that stays the greatest when both numbers are multiplied
abbrev ScaledGcd : ℕ → ℕ → Type 0
ScaledGcd a b = (g : ℕ) × ((c : ℕ) → IsGcd (a * c) (b * c) (g * c))

scaled_gcd : (n a b : ℕ) → b < n → ScaledGcd a b
scaled_gcd zero a b l = absurd (omega arith)
scaled_gcd (suc n) a b l = go (ℕ_discrete b 0) (λ k m. scaled_gcd n b k m)
  where
    mod_mul : (c : ℕ) → 0 < b → (a % b) * c ≡ (a * c) % (b * c)
    mod_mul c z = by_case c (ℕ_discrete c 0)
      where
        by_case : (c : ℕ) → Dec (c ≡ 0) → (a % b) * c ≡ (a * c) % (b * c)
        by_case c (yes e) = subst (λ w. (a % b) * w ≡ (a * w) % (b * w)) (sym e) (omega arith ∙ sym (zero-mod (b * 0)) ∙ ap (λ w. w % (b * 0)) (omega arith))
        by_case c (no d) =
            let u : a % b < b = mod-lt a z in
            let m : (a % b) * c < b * c = mul-lt-mul_of_pos_right u (omega arith) in
            let f : b * (a / b) + a % b ≡ a = div-add-mod a b in
            sym
            (ap (λ w. w % (b * c)) (ap (λ w. w * c) (sym f) ∙ spread (a / b) (a % b) c) ∙ add-mul-mod_self_left ((a % b) * c) (b * c) (a / b) ∙ mod-eq_of_lt m)
          where
            spread : (q r c : ℕ) → (b * q + r) * c ≡ r * c + (b * c) * q
            spread q r c = omega arith

    go : Dec (b ≡ 0) → ((k : ℕ) → k < n → ScaledGcd b k) → ScaledGcd a b
    go (yes e) h = (a, λ c. IsGcd-from_zero (a * c) (b * c) (ap (λ w. w * c) e ∙ omega arith))
    go (no d) h =
        let t = h (a % b) (let u : a % b < b = mod-lt a (omega arith) in omega arith) in
        (t.0, λ c. IsGcd-from_mod (a * c) (b * c) (t.0 * c) (subst (λ w. IsGcd (b * c) w (t.0 * c)) (mod_mul c (omega arith)) (t.1 c)))

-- two numbers have a greatest common divisor
pub some_gcd : (a b : ℕ) → (g : ℕ) × IsGcd a b g
some_gcd a b = let t = scaled_gcd (suc b) a b (omega arith) in (t.0, subst₃ IsGcd (mul-one a) (mul-one b) (mul-one t.0) (t.1 1))

-- Gauss: what divides b * c and has no common divisor with b divides c
pub gauss : (a b c : ℕ) → IsGcd a b 1 → a ∣ b * c → a ∣ c
gauss a b c h k =
    let t = scaled_gcd (suc b) a b (omega arith) in
    let e : t.0 ≡ 1 = one t in
    subst (λ w. a ∣ w) (ap (λ w. w * c) e ∙ omega arith) ((t.1 c).2 a (dvd-mul_right a c) k)
  where
    one : (t : ScaledGcd a b) → t.0 ≡ 1
    one t = same_from_IsGcd a b t.0 1 (subst₃ IsGcd (mul-one a) (mul-one b) (mul-one t.0) (t.1 1)) h

pub quotient_positive : (d g : ℕ) → 0 < d → g ∣ d → 0 < d / g
quotient_positive d g some h = from (d / g) (div-mul_cancel g h)
  where
    from : (q : ℕ) → q * g ≡ d → 0 < q
    from zero e = absurd (omega arith)
    from (suc q) e = omega arith

-- a divisor of a number that has no common divisor with b has none either
pub divisor_apart : (x a b : ℕ) → x ∣ a → IsGcd a b 1 → IsGcd x b 1
divisor_apart x a b h k = (one-dvd x, one-dvd b, λ c p q. k.2 c (dvd_trans c p h) q)

-- what has no common divisor with b and none with c has none with b * c
pub apart-mul : (a b c : ℕ) → IsGcd a b 1 → IsGcd a c 1 → IsGcd a (b * c) 1
apart-mul a b c h k = (one-dvd a, one-dvd (b * c), λ x p q. k.2 x p (gauss x b c (divisor_apart x a b p h) q))

-- two numbers divided by their greatest common divisor
pub quotients_apart : (a b g : ℕ) → 0 < g → IsGcd a b g → IsGcd (a / g) (b / g) 1
quotients_apart a b g some is = (
  one-dvd (a / g),
  one-dvd (b / g),
  λ c h k.
      dvd_of_mul-dvd-mul_right c some
      (subst (λ w. c * g ∣ w) (omega arith)
      (is.2 (c * g) (subst (λ w. c * g ∣ w) (div-mul_cancel g is.0) (mul-dvd-mul_right c h g))
      (subst (λ w. c * g ∣ w) (div-mul_cancel g is.1) (mul-dvd-mul_right c k g)))),
)

-- equal fractions in lowest terms have one numerator and one denominator
pub lowest_equal : (n e m h : ℕ) → 0 < h → IsGcd n e 1 → IsGcd m h 1 → n * h ≡ m * e → (n ≡ m) × (e ≡ h)
lowest_equal n e m h some a b crossed = (eq_of_mul-eq-mul_right h some n m (crossed ∙ ap (λ w. m * w) same), same)
  where
    same : e ≡ h
    same =
        dvd_antisymm
        (gauss e n h (IsGcd-swap n e 1 a) (subst (λ w. e ∣ w) (sym crossed) (dvd-mul_left e m)))
        (gauss h m e (IsGcd-swap m h 1 b) (subst (λ w. h ∣ w) crossed (dvd-mul_left h n)))
