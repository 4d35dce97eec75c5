-- The number that is read where a canonical number was written.
use Rattle.std.proofs.Common.{ℤ, ◌≡◌, ℕ, zero, suc, ◌*◌, ◌/◌, ◌%◌, ◌≤◌, ◌<◌, Bool, true, false, ◌&&◌, nat_eq, if◌then◌else◌, refl, ap, ap₂, sym, ◌∙◌, subst, arith}
use Rattle.std.specs.Prelude.{pos, negsuc, unsigned_abs, ◌*ℤ◌, None, Some}
use Rattle.std.specs.Int.{IsGcd}
use Rattle.std.proofs.lemmas.Bool.{le-leb, ne_eqb, eqb-true, eqb-false}
use Rattle.std.proofs.lemmas.List.Elements.{All-contains, All-from_recursion}
use Rattle.std.proofs.Math.Nat.{mod-eq_of_lt}
use Rattle.std.proofs.lemmas.Nat.Gcd.{same_from_IsGcd}
use native.Mathlib.Nat.{div-one, mod-mod}
use Rattle.fpl_numbers.specs.declared.number.Num.{Num}
use Rattle.fpl_numbers.specs.declared.number.Kind.{Kind}
use Rattle.fpl_numbers.specs.declared.number.Kind.TheVariants.{Rational, Prime}
use Rattle.math_fields.specs.Gcd.{gcd}
use Rattle.fpl_numbers.specs.Numbers.{IsListed, IsField, IsElement, residue, residue_of, most_number, divided, reduced, is_nought, inverse_below, accepted_primes}
use Rattle.fpl_numbers.specs.Quotients.{quotient_of, whole}
use Rattle.math_fields.proofs.Gcd.{gcd_is}
use Rattle.fpl_numbers.proofs.Integers.{abs_of_positive, positive_is}
use Rattle.fpl_numbers.proofs.KindReads.{listed_prime}
use Rattle.fpl_syntax.specs.Grammar.{signed, or_nought, coefficient_of}
use Rattle.fpl_spelling.specs.Spelling.{is_negative, is_below_nought}
use Rattle.fpl_numbers.proofs.WholeFractions.{num_same, times-one, divided-one}

signed_back : (n : ℤ) → signed (is_negative n) (unsigned_abs n) ≡ n
signed_back (pos n) = refl
signed_back (negsuc n) = refl

within : (kind : Kind) (negative : Bool) (a b : ℕ) (c : Num) → a ≤ most_number → b ≤ most_number →
    or_nought (quotient_of kind (signed negative a) (pos b)) ≡ c → coefficient_of kind negative a b ≡ c
unfolding coefficient_of
within kind negative a b c h k e = ap₂ (λ x y. if x && y then or_nought (quotient_of kind (signed negative a) (pos b)) else residue 0)
    (le-leb a most_number h) (le-leb b most_number k) ∙ e

-- fractions

lowest_back : (n : ℤ) (d : ℕ) → IsGcd (unsigned_abs n) d 1 → reduced n d ≡ record { numerator = n; denominator = pos d }
lowest_back n d h =
    let one : gcd (unsigned_abs n) d ≡ 1 = same_from_IsGcd (unsigned_abs n) d (gcd (unsigned_abs n) d) 1 (gcd_is (unsigned_abs n) d) h in
    num_same (ap (divided n) one ∙ divided-one n) (ap (λ g. pos (d / g)) one ∙ ap pos (div-one d))

some_quotient : (d : ℕ) (q : Num) → 0 < d → or_nought (if nat_eq d 0 then None else Some q) ≡ q
some_quotient d q h = ap (λ (b : Bool). or_nought (if b then None else Some q)) (ne_eqb d 0 (λ e. absurd (omega arith)))

fraction_back : (n : ℤ) (d : ℕ) → 0 < d → IsGcd (unsigned_abs n) d 1 → or_nought (quotient_of Rational n (pos d)) ≡
    record { numerator = n; denominator = pos d }
fraction_back n d some h =
    some_quotient d (reduced (n *ℤ pos 1) (1 * d)) some
    ∙ ap₂ reduced (times-one n) (let e : 1 * d ≡ d = omega arith in e)
    ∙ lowest_back n d h

-- residues

pub listed_small : (p : ℕ) → IsListed p → p ≤ 65521
listed_small p h =
    All-contains (λ q. q ≤ 65521) accepted_primes p
    (All-from_recursion (λ q. q ≤ 65521) accepted_primes (
      omega arith,
      (
        omega arith,
        (
          omega arith,
          (
            omega arith,
            (
              omega arith,
              (
                omega arith,
                (omega arith, (omega arith, (omega arith, (omega arith, (omega arith, (omega arith, (omega arith, (omega arith, (omega arith, tt))))))))),
              ),
            ),
          ),
        ),
      ),
    ))
    h

module _ (p : ℕ) (some : 2 < p) where
  inverse_one : (n : ℕ) → 2 ≤ n → n ≤ p → inverse_below p 1 n ≡ 1
  inverse_one zero l m = absurd (omega arith)
  inverse_one (suc n) l m = go (nat_eq (1 * n % p) 1) refl (inverse_one n)
    where
      small : 1 * n % p ≡ n
      small = ap (λ k. k % p) (let e : 1 * n ≡ n = omega arith in e) ∙ mod-eq_of_lt (omega arith)

      go : (t : Bool) → nat_eq (1 * n % p) 1 ≡ t → (2 ≤ n → n ≤ p → inverse_below p 1 n ≡ 1) → (if t then n else inverse_below p 1 n) ≡ 1
      go true e h = sym small ∙ eqb-true (1 * n % p) 1 e
      go false e h = h (let d : n ≡ 1 → ⊥ = λ one. eqb-false (1 * n % p) 1 e (small ∙ one) in omega arith) (omega arith)

  one_stays : 1 % p ≡ 1
  one_stays = mod-eq_of_lt (omega arith)

  residue_back : (r : ℕ) → r < p → or_nought (quotient_of (Prime p) (pos r) (pos 1)) ≡ residue r
  residue_back r l =
      some_quotient (1 % p) (residue (r % p * inverse_below p (1 % p) p % p)) (omega (arith, one_stays))
      ∙ ap residue (ap (λ k. r % p * k % p) (ap (λ a. inverse_below p a p) one_stays ∙ inverse_one p (omega arith) (omega arith))
      ∙ ap (λ k. k % p) (let e : r % p * 1 ≡ r % p = omega arith in e) ∙ mod-mod r p ∙ mod-eq_of_lt l)

pub coefficient_back : (kind : Kind) (c : Num) → IsField kind → IsElement kind c → coefficient_of kind (is_below_nought c) (unsigned_abs c.numerator)
    (unsigned_abs c.denominator) ≡ c
coefficient_back Rational c h e =
    let n = c.numerator in
    let d = unsigned_abs c.denominator in
    within Rational (is_negative n) (unsigned_abs n) d c e.1.0 e.1.1
    (ap (λ m. or_nought (quotient_of Rational m (pos d))) (signed_back n) ∙ fraction_back n d (abs_of_positive c.denominator e.0.positive) e.0.lowest
    ∙ num_same refl (sym (positive_is c.denominator e.0.positive)))
coefficient_back (Prime p) c h e =
    let small = listed_small p h in
    let above : 2 < p = (listed_prime p h).1 in
    let r = residue_of c in
    let few : r < p = e.0.0 in
    subst (λ c. coefficient_of (Prime p) (is_below_nought c) (unsigned_abs c.numerator) (unsigned_abs c.denominator) ≡ c) (sym e.0.1)
    (within (Prime p) false r 1 (residue r) (omega arith) (omega arith) (residue_back p above r few))

-- the numbers that are written fit
pub parts_small : (kind : Kind) (c : Num) → IsField kind → IsElement kind c → (unsigned_abs c.numerator ≤ most_number) ×
    (unsigned_abs c.denominator ≤ most_number)
parts_small Rational c h e = e.1
parts_small (Prime p) c h e =
    let small = listed_small p h in
    let few : residue_of c < p = e.0.0 in
    let one : unsigned_abs c.denominator ≡ 1 = ap (λ (c : Num). unsigned_abs c.denominator) e.0.1 in
    (omega arith, omega arith)

-- a denominator is not 0 in the field
pub denominator_some : (kind : Kind) (c : Num) → IsField kind → IsElement kind c → is_nought (whole kind (pos (unsigned_abs c.denominator))) ≡ false
denominator_some Rational c h e = let some = abs_of_positive c.denominator e.0.positive in ne_eqb (unsigned_abs c.denominator) 0 (λ e. absurd (omega arith))
denominator_some (Prime p) c h e =
    let above : 2 < p = (listed_prime p h).1 in
    ap (λ (c : Num). nat_eq (unsigned_abs c.denominator % p) 0) e.0.1 ∙ ap (λ k. nat_eq k 0) (one_stays p above)
