-- The numbers of a text are canonical and fit.
use Rattle.std.proofs.Common.{◌≡◌, ℕ, zero, suc, ◌*◌, ◌/◌, ◌<◌, ◌≤◌, Bool, true, false, ◌&&◌, IsTrue, if◌then◌else◌, refl, ap₂, sym, subst, arith, ℤ, pos}
use Rattle.std.specs.Prelude.{None, Some, nat_le, nat_eq, unsigned_abs, ◌*ℤ◌}
use Rattle.std.specs.Int.{IsGcd}
use Rattle.std.proofs.lemmas.Int.{ints}
use Rattle.std.proofs.lemmas.Bool.{leb-true, and_parts}
use native.Mathlib.Nat.{div-le_self, pos_of_dvd_of_pos}
use Rattle.math_fields.proofs.Divisors.{quotients_apart, quotient_positive}
use Rattle.fpl_numbers.specs.declared.number.Kind.{Kind}
use Rattle.fpl_numbers.specs.declared.number.Kind.TheVariants.{Rational, Prime}
use Rattle.math_fields.specs.Gcd.{gcd, gcd_within}
use Rattle.fpl_numbers.specs.Numbers.{IsElement, residue, most_number, reduced, is_nought, product_of, inverse_of, is_listed}
use Rattle.fpl_numbers.specs.Quotients.{quotient_of, whole}
use Rattle.math_fields.proofs.Gcd.{gcd_is}
use Rattle.fpl_numbers.proofs.Integers.{abs-divided, positive_int}
use Rattle.fpl_syntax.specs.Kinds.{is_field}
use Rattle.fpl_syntax.specs.Grammar.{signed, or_nought, coefficient_of}
use Rattle.fpl_syntax.proofs.Coefficients.{signed_small}

-- a over m, reduced
reduced_element : (a : ℤ) (m : ℕ) → unsigned_abs a ≤ most_number → m ≤ most_number → 0 < m → IsElement Rational (reduced a m)
reduced_element a m h k some = (
  record {
    positive = positive_int _ (quotient_positive m _ some is.1);
    lowest = subst (λ w. IsGcd w (m / gcd (unsigned_abs a) m) 1) (sym (abs-divided a (gcd (unsigned_abs a) m)))
        (quotients_apart _ m _ (pos_of_dvd_of_pos is.1 some) is);
  },
  (
    subst (λ w. w ≤ most_number) (sym (abs-divided a (gcd (unsigned_abs a) m))) (let q : unsigned_abs a / gcd (unsigned_abs a) m ≤ unsigned_abs a =
        div-le_self _ _ in omega arith),
    (let q : m / gcd (unsigned_abs a) m ≤ m = div-le_self _ _ in omega arith),
  ),
)
  where
    is : IsGcd (unsigned_abs a) m (gcd (unsigned_abs a) m)
    is = gcd_is (unsigned_abs a) m

nought_element : IsElement Rational (residue 0)
unfolding gcd gcd_within
nought_element = reduced_element (pos 0) 1 (omega arith) (omega arith) (omega arith)

times_one : (a : ℤ) → a *ℤ pos 1 ≡ a
times_one a = omega (arith, ints)

nonzero : (d : ℕ) → nat_eq d 0 ≡ false → 0 < d
nonzero zero e = cc
nonzero (suc d) e = omega arith

within_bound : (n : ℕ) → nat_le n most_number ≡ true → n ≤ most_number
within_bound n e = leb-true n most_number e

rational_element : (a : ℤ) (d : ℕ) → unsigned_abs a ≤ most_number → d ≤ most_number → nat_eq d 0 ≡ false →
    IsElement Rational (product_of Rational (whole Rational a) (inverse_of Rational (whole Rational (pos d))))
rational_element a d h k some =
    let positive : 0 < d = omega (arith, nonzero d some) in
    let one : 1 * d ≡ d = omega arith in
    subst (IsElement Rational) (ap₂ reduced (sym (times_one a)) (sym one)) (reduced_element a d h k positive)

listed_positive : (p : ℕ) → is_listed p ≡ true → 0 < p
listed_positive zero e = cc
listed_positive (suc p) e = omega arith

residue_element : (p n : ℕ) → n < p → IsElement (Prime p) (residue n)
residue_element p n h = ((h, refl), tt)

nought_in : (kind : Kind) → IsTrue (is_field kind) → IsElement kind (residue 0)
nought_in Rational e = nought_element
nought_in (Prime p) e = residue_element p 0 (listed_positive p e)

quotient_in : (kind : Kind) → IsTrue (is_field kind) → (a : ℤ) (d : ℕ) → unsigned_abs a ≤ most_number → d ≤ most_number → (t : Bool) →
    is_nought (whole kind (pos d)) ≡ t
    → IsElement kind (or_nought (if t then None else Some (product_of kind (whole kind a) (inverse_of kind (whole kind (pos d))))))
quotient_in kind e a d h k true test = nought_in kind e
quotient_in Rational e a d h k false test = rational_element a d h k test
quotient_in (Prime p) e a d h k false test = residue_element p _ (let positive = listed_positive p e in omega arith)

pub coefficient_element : (kind : Kind) → IsTrue (is_field kind) → (negative : Bool) (a b : ℕ) → IsElement kind (coefficient_of kind negative a b)
unfolding coefficient_of
coefficient_element kind e negative a b = by_size (nat_le a most_number && nat_le b most_number) refl
  where
    by_size : (t : Bool) → (nat_le a most_number && nat_le b most_number) ≡ t → IsElement kind
        (if t then or_nought (quotient_of kind (signed negative a) (pos b)) else residue 0)
    by_size false test = nought_in kind e
    by_size true test =
        let s = and_parts _ _ test in
        quotient_in kind e (signed negative a) b (signed_small negative a (within_bound a s.0)) (within_bound b s.1) (is_nought (whole kind (pos b))) refl
