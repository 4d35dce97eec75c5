-- A number is prime where no number up to its root divides it.
use Rattle.std.specs.Prelude.{ℕ, zero, suc, ◌≡◌, ◌≢◌, ◌<◌, ◌≤◌, ◌%◌, ◌/◌, ◌+◌, ◌*◌, Bool, true, false, ◌&&◌, ◌||◌, not, nat_eq, nat_le}
use mathlib.Core.Path.{refl, sym, ap, ◌∙◌, subst}
use native.Mathlib.Omega.{arith}
use native.Mathlib.Decide.{ℕ_discrete, dec_le}
use native.Mathlib.Nat.{div-add-mod, mul-mod_left, mul-le-mul}
use Rattle.std.specs.Prelude.{List, [], ◌∷◌, ◌==◌, ◌⊎◌}
use Rattle.std.specs.List.{list_all, list_any}
use Rattle.std.proofs.Common.{inl, inr}
use Rattle.std.proofs.lemmas.Bool.{leb-true, eqb-true}
use Rattle.math_fields.specs.Primes.{IsPrime}

-- none of the numbers from 2 to k + 1 that are below p divides p
unfoldable pub none_divides : ℕ → ℕ → Bool
none_divides zero p = true
none_divides (suc k) p = (nat_le p (suc (suc k)) || not (nat_eq (p % (suc (suc k))) 0)) && none_divides k p

first_of_two : (a b c : Bool) → ((a || not b) && c) ≡ true → a ≡ false → b ≡ false
first_of_two a b c h e = grind arith

second_of_two : (a b c : Bool) → ((a || not b) && c) ≡ true → c ≡ true
second_of_two a b c h = grind arith

none_divides_is : (k p d : ℕ) → none_divides k p ≡ true → 1 < d → d ≤ k + 1 → d < p → p % d ≢ 0
unfolding none_divides
none_divides_is zero p d t l m n = absurd (omega arith)
none_divides_is (suc k) p d t l m n =
    go (ℕ_discrete d (suc (suc k))) (λ o. none_divides_is k p d (second_of_two (nat_le p (suc (suc k))) (nat_eq (p % (suc (suc k))) 0)
    (none_divides k p) t) l o n)
  where
    apart : (n : ℕ) → nat_eq n 0 ≡ false → n ≢ 0
    apart n e = grind arith

    more : (a b : ℕ) → b < a → nat_le a b ≡ false
    more a b l = grind arith

    go : Dec (d ≡ suc (suc k)) → (d ≤ k + 1 → p % d ≢ 0) → p % d ≢ 0
    go (yes e) h =
        subst (λ w. p % w ≢ 0) (sym e) (apart _ (first_of_two (nat_le p (suc (suc k))) _ (none_divides k p) t (more p (suc (suc k)) (subst (λ w. w < p) e n))))
    go (no e) h = h (omega arith)

-- a number is prime where no number up to its root, and below it, divides it
pub prime_by_test : (k p : ℕ) → 1 < p → p < (k + 2) * (k + 2) → ((d : ℕ) → 1 < d → d ≤ k + 1 → d < p → p % d ≢ 0) → IsPrime p
prime_by_test k p one small none = record {
  past_one = one;
  no_divisor = λ d l m e. go d l m e (dec_le d (k + 1));
}
  where
    go : (d : ℕ) → 1 < d → d < p → p % d ≡ 0 → Dec (d ≤ k + 1) → ⊥
    go d l m e (yes h) = none d l h m e
    go d l m e (no h) =
        let q = p / d in
        let f : d * q ≡ p = omega (arith, div-add-mod p d) in
        let small_q : q ≤ k + 1 = by_size q f (dec_le q (k + 1)) in
        let past_q : 1 < q = by_value q f in
        none q past_q small_q (smaller q past_q f) (ap (λ w. w % q) (sym f) ∙ mul-mod_left d q)
      where
        by_size : (q : ℕ) → d * q ≡ p → Dec (q ≤ k + 1) → q ≤ k + 1
        by_size q f (yes s) = s
        by_size q f (no s) =
            let t : (k + 2) * (k + 2) ≤ d * q = mul-le-mul (omega arith) (omega arith) in absurd (omega arith)

        by_value : (q : ℕ) → d * q ≡ p → 1 < q
        by_value zero f = absurd (omega arith)
        by_value (suc zero) f = absurd (omega arith)
        by_value (suc (suc q)) f = omega arith

        smaller : (q : ℕ) → 1 < q → d * q ≡ p → q < p
        smaller q n f = let t : 2 * q ≤ d * q = mul-le-mul l (omega arith) in omega arith

pub prime_by_trial : (k p : ℕ) → 1 < p → p < (k + 2) * (k + 2) → ((d : ℕ) → 1 < d → d ≤ k + 1 → p % d ≢ 0) → IsPrime p
prime_by_trial k p one small none = prime_by_test k p one small (λ d l m n. none d l m)

-- the test of odd primes below 257^2, which divides by the numbers up to 256
unfoldable pub is_odd_prime : ℕ → Bool
is_odd_prime p = nat_le 3 p && (nat_le p 66048 && none_divides 255 p)

pub odd_prime : (p : ℕ) → is_odd_prime p ≡ true → IsPrime p × (2 < p)
unfolding is_odd_prime
odd_prime p h =
    let both = parts (nat_le 3 p) (nat_le p 66048) (none_divides 255 p) h in
    let past : 3 ≤ p = leb-true 3 p both.0 in
    let small : p ≤ 66048 = leb-true p 66048 both.1 in
    (prime_by_test 255 p (omega arith) (omega arith) (λ d. none_divides_is 255 p d both.2), past)
  where
    parts : (a b c : Bool) → (a && (b && c)) ≡ true → (a ≡ true) × (b ≡ true) × (c ≡ true)
    parts true true true h = (refl, refl, refl)
    parts true true false h = (refl, refl, h)
    parts true false c h = absurd (let k : ⊥ = cc in k)
    parts false b c h = absurd (let k : ⊥ = cc in k)

either : (a b : Bool) → (a || b) ≡ true → (a ≡ true) ⊎ (b ≡ true)
either true b h = inl refl
either false b h = inr h

both_are : (a b : Bool) → (a && b) ≡ true → (a ≡ true) × (b ≡ true)
both_are true b h = (refl, h)
both_are false b h = absurd (let k : ⊥ = cc in k)

-- each number of a list that passes the test is an odd prime
pub listed_odd_prime : (qs : List ℕ) → list_all is_odd_prime qs ≡ true → (p : ℕ) → list_any (λ q. p == q) qs ≡ true → IsPrime p × (2 < p)
listed_odd_prime [] h p e = absurd (let k : ⊥ = cc in k)
listed_odd_prime (q ∷ qs) h p e =
    let t = both_are (is_odd_prime q) (list_all is_odd_prime qs) h in
    elim (either (p == q) (list_any (λ q. p == q) qs) e) [
      | inl f ↦ odd_prime p (subst (λ w. is_odd_prime w ≡ true) (sym (eqb-true p q f)) t.0)
      | inr f ↦ listed_odd_prime qs t.1 p f
    ]
