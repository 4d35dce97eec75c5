-- Sums and products of fractions over 1, as the code forms them.
use Rattle.std.specs.Prelude.{◌≡◌, ℤ, pos, ◌+ℤ◌, ◌*ℤ◌, Bool, true, false, Option, Some, None, option_map, if◌then◌else◌}
use mathlib.Core.Path.{refl, sym, ap, ap₂, ◌∙◌, subst}
use Rattle.fpl_numbers.specs.declared.number.Num.{Num}
use Rattle.fpl_numbers.specs.declared.number.Kind.TheVariants.{Rational}
use Rattle.fpl_numbers.specs.declared.number.Op.TheVariants.{Add, Mul}
use Rattle.fpl_numbers.specs.Numbers.{IsElement, is_within, fraction_fits, fraction_sum, fraction_product}
use Rattle.fpl_numbers.specs.Quotients.{whole}
use Rattle.fpl_numbers.proofs.WholeFractions.{over_one, whole_sum_is, whole_sum_fits, whole_product_is, whole_product_fits}
use Rattle.fpl_scalar.proofs.Choices.{back}
use Rattle.fpl_scalar.proofs.FractionArithmetic.{wrapped, num_same}

mapped : (t : Bool) (v : ℤ) → option_map (whole Rational) (if t then Some v else None) ≡ (if t then Some (over_one v) else None)
mapped true v = refl
mapped false v = refl

module _ (a b : Num) (is_a : IsElement Rational a) (is_b : IsElement Rational b) (one_a : a.denominator ≡ pos 1) (one_b : b.denominator ≡ pos 1)
    (x : Option ℤ) (r : Option Num) (r_is : r ≡ option_map (whole Rational) x) where
  answered : (v : ℤ) (fits : Num → Num → Bool) (value : Num → Num → Num) → x ≡ (if is_within v then Some v else None) →
      fits (over_one a.numerator) (over_one b.numerator) ≡ is_within v → value (over_one a.numerator) (over_one b.numerator) ≡ over_one v →
      r ≡ (if fits a b then Some (value a b) else None)
  answered v fits value e f g =
      r_is ∙ ap (option_map (whole Rational)) e ∙ mapped (is_within v) v
      ∙ ap₂ (λ t w. if t then Some w else None) (sym f) (sym g)
      ∙ ap₂ (λ c d. if fits c d then Some (value c d) else None) (sym (num_same refl one_a)) (sym (num_same refl one_b))

  pub whole_sum_answer : x ≡ (if is_within (wrapped a.numerator +ℤ wrapped b.numerator) then Some (wrapped a.numerator +ℤ wrapped b.numerator) else None) →
      r ≡ (if fraction_fits Add a b then Some (fraction_sum a b) else None)
  whole_sum_answer e =
      answered (a.numerator +ℤ b.numerator) (fraction_fits Add) fraction_sum
      (subst (λ w. x ≡ (if is_within w then Some w else None)) (ap₂ (λ n m. n +ℤ m) (back a.numerator is_a.1.0) (back b.numerator is_b.1.0)) e)
      (whole_sum_fits a.numerator b.numerator is_a.1.0 is_b.1.0) (whole_sum_is a.numerator b.numerator)

  pub whole_product_answer : x ≡ (if is_within (wrapped a.numerator *ℤ wrapped b.numerator) then Some (wrapped a.numerator *ℤ wrapped b.numerator) else None) →
      r ≡ (if fraction_fits Mul a b then Some (fraction_product a b) else None)
  whole_product_answer e =
      answered (a.numerator *ℤ b.numerator) (fraction_fits Mul) fraction_product
      (subst (λ w. x ≡ (if is_within w then Some w else None)) (ap₂ (λ n m. n *ℤ m) (back a.numerator is_a.1.0) (back b.numerator is_b.1.0)) e)
      (whole_product_fits a.numerator b.numerator) (whole_product_is a.numerator b.numerator)
