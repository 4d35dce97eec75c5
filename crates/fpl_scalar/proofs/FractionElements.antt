-- What the calls of the fractions answer are canonical numbers within the bound.
use Rattle.std.specs.Prelude.{◌≡◌, ◌≤◌, ℤ, pos, negsuc, neg_ℤ, ◌-ℤ◌, ◌<ℤ◌, ◌≤ℤ◌, unsigned_abs, false, Option, Some, None, IfSome, if◌then◌else◌}
use Rattle.std.proofs.lemmas.Int.{ints}
use mathlib.Core.Path.{refl, sym, ◌∙◌, subst}
use native.Mathlib.Omega.{arith}
use Rattle.fpl_numbers.specs.declared.number.Num.{Num}
use Rattle.fpl_numbers.specs.declared.number.Kind.TheVariants.{Rational}
use Rattle.fpl_numbers.specs.declared.number.Op.TheVariants.{Add, Mul}
use Rattle.fpl_numbers.specs.Numbers.{IsElement, most_number, is_nought, fraction_fits, fraction_sum, fraction_product, inverse_of, inverted}
use Rattle.fpl_numbers.proofs.Fitting.{result_fits, negative_fits, inverse_fits}
use Rattle.fpl_numbers.proofs.KindReads.{kind_reads_exactly}
use Rattle.fpl_scalar.proofs.Choices.{back, chosen}
use Rattle.fpl_scalar.proofs.FractionArithmetic.{wrapped, num_same}

pub sum_element : (a b c : Num) → IsElement Rational a → IsElement Rational b →
    Some c ≡ (if fraction_fits Add a b then Some (fraction_sum a b) else None) → IsElement Rational c
sum_element a b c is_a is_b e =
    let f = chosen (fraction_fits Add a b) (fraction_sum a b) c e in
    subst (IsElement Rational) (sym f.1) (((kind_reads_exactly Rational tt).sum a b is_a.0 is_b.0).0, result_fits Rational Add a b f.0)

pub sum_element_if : (a b : Num) (r : Option Num) → IsElement Rational a → IsElement Rational b →
    IfSome r (λ c. Some c ≡ (if fraction_fits Add a b then Some (fraction_sum a b) else None)) → IfSome r (λ c. IsElement Rational c)
sum_element_if a b (Some c) is_a is_b e = sum_element a b c is_a is_b e
sum_element_if a b None is_a is_b e = tt

pub product_element : (a b c : Num) → IsElement Rational a → IsElement Rational b → Some c ≡
    (if fraction_fits Mul a b then Some (fraction_product a b) else None) → IsElement Rational c
product_element a b c is_a is_b e =
    let f = chosen (fraction_fits Mul a b) (fraction_product a b) c e in
    subst (IsElement Rational) (sym f.1) (((kind_reads_exactly Rational tt).product a b is_a.0 is_b.0).0, result_fits Rational Mul a b f.0)

neg_back : (z : ℤ) → unsigned_abs z ≤ most_number → wrapped (pos 0 -ℤ wrapped z) ≡ neg_ℤ z
neg_back z h = omega (arith, ints)

pub negative_element : (a : Num) → IsElement Rational a →
    IsElement Rational (record { numerator = wrapped (pos 0 -ℤ wrapped a.numerator); denominator = wrapped a.denominator })
negative_element a is =
    subst (IsElement Rational) (sym (num_same (neg_back a.numerator is.1.0) (back a.denominator is.1.1)))
    (((kind_reads_exactly Rational tt).negative a is.0).0, negative_fits Rational a is.1)

inverse_element : (a : Num) → IsElement Rational a → is_nought a ≡ false → IsElement Rational (inverse_of Rational a)
inverse_element a is z = (((kind_reads_exactly Rational tt).inverse a is.0 z).0, inverse_fits Rational a is.1)

inverted_below : (n d : ℤ) → n <ℤ pos 0 → Path Num (record { numerator = neg_ℤ d; denominator = neg_ℤ n }) (inverted n d)
inverted_below (pos n) d h = absurd (omega (arith, ints))
inverted_below (negsuc n) d h = refl

inverted_above : (n d : ℤ) → pos 0 ≤ℤ n → Path Num (record { numerator = d; denominator = n }) (inverted n d)
inverted_above (pos n) d h = refl
inverted_above (negsuc n) d h = absurd (omega (arith, ints))

pub inverse_below_zero : (a : Num) → IsElement Rational a → is_nought a ≡ false → a.numerator <ℤ pos 0 →
    IsElement Rational (record { numerator = wrapped (pos 0 -ℤ wrapped a.denominator); denominator = wrapped (pos 0 -ℤ wrapped a.numerator) })
inverse_below_zero a is z h =
    subst (IsElement Rational) (sym (num_same (neg_back a.denominator is.1.1) (neg_back a.numerator is.1.0) ∙
    inverted_below a.numerator a.denominator h)) (inverse_element a is z)

pub inverse_above_zero : (a : Num) → IsElement Rational a → is_nought a ≡ false → pos 0 ≤ℤ a.numerator →
    IsElement Rational (record { numerator = wrapped a.denominator; denominator = wrapped a.numerator })
inverse_above_zero a is z h =
    subst (IsElement Rational) (sym (num_same (back a.denominator is.1.1) (back a.numerator is.1.0) ∙ inverted_above a.numerator a.denominator h))
    (inverse_element a is z)
