-- The inverse modulo a prime, by one division after another.
use Rattle.std.specs.Prelude.{ℕ, zero, suc, ◌≡◌, ◌<◌, ◌≤◌, ◌+◌, ◌-◌, ◌*◌, ◌/◌, ◌%◌, true, false, nat_eq}
use mathlib.Core.Path.{sym, ap, ◌∙◌}
use native.Mathlib.Omega.{arith}
use native.Mathlib.Decide.{ℕ_discrete}
use native.Mathlib.Nat.{mod-lt, mod-eq_of_lt, div-add-mod, mul_assoc, mul_comm, add-mul-mod_self_left}
use Rattle.std.proofs.lemmas.Nat.{mul-mod_first}
use Rattle.fpl_numbers.specs.Numbers.{inverse_below}

mul-mod_second : (x y p : ℕ) → x * (y % p) % p ≡ x * y % p
mul-mod_second x y p = ap (λ w. w % p) (mul_comm x (y % p)) ∙ mul-mod_first y x p ∙ ap (λ w. w % p) (mul_comm y x)

-- both sides of one factor at once
regrouped : (a m k p : ℕ) → a * (m * k % p) % p ≡ (a * m % p) * k % p
regrouped a m k p = mul-mod_second a (m * k) p ∙ ap (λ w. w % p) (sym (mul_assoc a m k)) ∙ sym (mul-mod_first (a * m) k p)

rest_is : (j q r k : ℕ) → k + q ≡ (j + 1) * q + r → (j + 1) * k ≡ r + (k + q) * j
rest_is j q r k e = omega arith

-- one division: a * m congruent to x gives a * (m * (p - p / x)) congruent to p % x
pub one_division : (a m x p : ℕ) → 1 ≤ x → x < p → a * m % p ≡ x → a * (m * (p - p / x) % p) % p ≡ p % x
one_division a m x p one below e = regrouped a m (p - p / x) p ∙ ap (λ w. w * (p - p / x) % p) e ∙
    go (x - 1) (p / x) (p % x) (omega arith) (div-add-mod p x) (mod-lt p one)
  where
    at_most : (j q r : ℕ) → (j + 1) * q + r ≡ p → q ≤ p
    at_most j q r f = omega arith

    go : (j q r : ℕ) → x ≡ j + 1 → x * q + r ≡ p → r < x → x * (p - q) % p ≡ r
    go j q r f g l =
        let g' : (j + 1) * q + r ≡ p = ap (λ w. w * q + r) (sym f) ∙ g in
        let k : p - q + q ≡ p = (let m = at_most j q r g' in omega arith) in
        ap (λ w. w * (p - q) % p) f
        ∙ ap (λ w. w % p) (rest_is j q r (p - q) (k ∙ sym g') ∙ ap (λ w. r + w * j) k)
        ∙ add-mul-mod_self_left r p j ∙ mod-eq_of_lt (omega arith)

-- two inverses are one
pub inverse_once : (p a x y : ℕ) → x < p → y < p → a * x % p ≡ 1 → a * y % p ≡ 1 → x ≡ y
inverse_once p a x y l m e f = sym (other x y l f) ∙ ap (λ w. w % p) (turned a x y) ∙ other y x m e
  where
    turned : (a x y : ℕ) → (a * y) * x ≡ (a * x) * y
    turned a x y = omega arith

    alone : (z : ℕ) → z < p → 1 * z % p ≡ z
    alone z l = (let e : 1 * z ≡ z = omega arith in ap (λ w. w % p) e) ∙ mod-eq_of_lt l

    other : (z u : ℕ) → z < p → a * u % p ≡ 1 → (a * u) * z % p ≡ z
    other z u l f = sym (mul-mod_first (a * u) z p) ∙ ap (λ w. w * z % p) f ∙ alone z l

-- the search finds an inverse where there is one
found : (p a n m : ℕ) → m < n → a * m % p ≡ 1 → (inverse_below p a n < n) × (a * inverse_below p a n % p ≡ 1)
found p a zero m l e = absurd (omega arith)
found p a (suc n) m l e = go (ℕ_discrete (a * n % p) 1) (λ k. found p a n m k e)
  where
    go : Dec (a * n % p ≡ 1) → (m < n → (inverse_below p a n < n) × (a * inverse_below p a n % p ≡ 1)) →
        (inverse_below p a (suc n) < suc n) × (a * inverse_below p a (suc n) % p ≡ 1)
    go (yes f) h = (let t : nat_eq (a * n % p) 1 ≡ true = grind arith in rw t (omega arith, f))
    go (no d) h =
        let t : nat_eq (a * n % p) 1 ≡ false = grind arith in
        let k : m < n = by_other (ℕ_discrete m n) in
        rw t (let i = h k in let j = i.0 in let b : inverse_below p a n < suc n = omega arith in (b, i.1))
      where
        by_other : Dec (m ≡ n) → m < n
        by_other (yes f) = absurd (d (ap (λ w. a * w % p) (sym f) ∙ e))
        by_other (no c) = omega arith

pub inverse_found : (p a m : ℕ) → m < p → a * m % p ≡ 1 → m ≡ inverse_below p a p
inverse_found p a m l e = let f = found p a p m l e in inverse_once p a m (inverse_below p a p) l f.0 e f.1
