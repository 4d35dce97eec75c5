-- The residues modulo a prime have the laws of a field.
use Rattle.std.specs.Prelude.{ℕ, zero, suc, ◌≡◌, ◌≢◌, ◌<◌, ◌%◌, ◌/◌, ◌+◌, ◌*◌, ◌-◌}
use mathlib.Core.Path.{sym, ap, ◌∙◌}
use native.Mathlib.Omega.{arith}
use native.Mathlib.Decide.{ℕ_discrete}
use native.Mathlib.Nat.{mod-add-mod, mod-lt, mod-eq_of_lt, div-add-mod, add-mul-mod_self_left, mod_self, zero-mod}
use Rattle.std.proofs.lemmas.Nat.{mul-mod_first}
use Rattle.math_fields.specs.Primes.{IsPrime}

-- a number x with a * x ≡ 1 modulo p
abbrev pub InverseOf : ℕ → ℕ → Type 0
InverseOf p a = (x : ℕ) × (a * x % p ≡ 1)

product : (a q y r j : ℕ) → a * q ≡ j + 1 → a * ((r + j) * (q * y)) ≡ r * y + (r + j + 1) * (j * y)
product a q y r j e = first ∙ ap (λ w. (r + j) * (w * y)) e ∙ omega arith
  where
    first : a * ((r + j) * (q * y)) ≡ (r + j) * ((a * q) * y)
    first = omega arith

module _ (p : ℕ) (prime : IsPrime p) where
  -- with p = a*q + r and r*y = 1, a*((p-1)*q*y) = 1
  step : (a q r y j : ℕ) → a * q ≡ j + 1 → p ≡ r + j + 1 → r * y % p ≡ 1 → InverseOf p a
  step a q r y j e d h = (
    (r + j) * (q * y),
    ap (λ w. w % p) (product a q y r j e ∙ ap (λ w. r * y + w * (j * y)) (sym d)) ∙
        add-mul-mod_self_left (r * y) p (j * y) ∙ h,
  )

  inverse_below : (b a : ℕ) → a < b → 0 < a → a < p → InverseOf p a
  inverse_below zero a l z m = absurd (omega arith)
  inverse_below (suc b) a l z m = go (ℕ_discrete a 1) (λ c k n. inverse_below b c k n)
    where
      go : Dec (a ≡ 1) → ((c : ℕ) → c < b → 0 < c → c < p → InverseOf p c) → InverseOf p a
      go (yes e) h = (1, ap (λ w. w * 1 % p) e ∙ mod-eq_of_lt (prime.past_one))
      go (no d) h =
          let r = p % a in
          let q = p / a in
          let u : r < a = mod-lt p z in
          let v : r ≢ 0 = prime.no_divisor a (omega arith) m in
          let t = h r (omega arith) (omega arith) (omega arith) in
          let w : a * q + r ≡ p = div-add-mod p a in
          step a q r t.0 (a * q - 1) (omega arith) (omega arith) t.1

  pub inverse_exists : (a : ℕ) → 0 < a → a < p → InverseOf p a
  inverse_exists a = inverse_below (suc a) a (omega arith)

  -- an inverse of x modulo p, and 0 where x is 0 modulo p
  inverse_in : (x : ℕ) → Dec (x % p ≡ 0) → (y : ℕ) × (x % p ≢ 0 → x * y % p ≡ 1)
  inverse_in x (yes e) = (0, λ h. absurd (h e))
  inverse_in x (no d) =
      let t = inverse_exists (x % p) (omega arith) (mod-lt x (omega (arith, prime.past_one))) in (t.0, λ h. sym (mul-mod_first x t.0 p) ∙ t.1)

  pub residue_inverse : (x : ℕ) → (y : ℕ) × (x % p ≢ 0 → x * y % p ≡ 1)
  residue_inverse x = inverse_in x (ℕ_discrete (x % p) 0)

  pub residue_plus-minus : (x : ℕ) → (x + (p - x % p)) % p ≡ 0 % p
  residue_plus-minus x =
      sym (mod-add-mod x p (p - x % p))
      ∙ ap (λ w. w % p) (let l : x % p < p = mod-lt x (omega (arith, prime.past_one)) in let e : x % p + (p - x % p) ≡ p = omega arith in e) ∙
      mod_self p ∙ sym (zero-mod p)

  pub residue_is_inverse : (x : ℕ) → x % p ≢ 0 % p → x * (residue_inverse x).0 % p ≡ 1 % p
  residue_is_inverse x h = (residue_inverse x).1 (λ e. h (e ∙ sym (zero-mod p))) ∙ sym (mod-eq_of_lt prime.past_one)

  pub one_not_zero : 1 % p ≢ 0 % p
  one_not_zero e = let d = sym (mod-eq_of_lt prime.past_one) ∙ e ∙ zero-mod p in absurd (omega (arith, d))

  pub two_not_zero : 2 < p → 2 % p ≢ 0 % p
  two_not_zero past_two e = let d = sym (mod-eq_of_lt past_two) ∙ e ∙ zero-mod p in absurd (omega (arith, d))
