-- A number that is 0 is the residue 0; a multiple of it is 0, adds nothing, and always fits.
use Rattle.std.specs.Prelude.{ℕ, ◌≡◌, ◌<◌, ◌+◌, ◌*◌, ◌/◌, ◌%◌, ℤ, pos, negsuc, ◌+ℤ◌, ◌*ℤ◌, unsigned_abs, true, ◌&&◌, nat_le, Ok, Err, if◌then◌else◌}
use Rattle.std.proofs.lemmas.Int.{ints}
use mathlib.Core.Path.{sym, ap, ap₂, ◌∙◌, subst}
use Rattle.std.specs.Int.{IsGcd}
use native.Mathlib.Omega.{arith}
use native.Mathlib.Nat.{div-one, zero-div, dvd_refl, mod-eq_of_lt, mul-pos, mul-one, mul-div_cancel, mul-zero, zero-mod, add-zero}
use Rattle.std.proofs.lemmas.Nat.Gcd.{same_from_IsGcd, dvd-zero}
use Rattle.fpl_numbers.specs.declared.number.Num.{Num}
use Rattle.fpl_numbers.specs.declared.number.Kind.{Kind}
use Rattle.fpl_numbers.specs.declared.number.Kind.TheVariants.{Rational, Prime}
use Rattle.fpl_numbers.specs.declared.number.Op.TheVariants.{Add, Mul}
use Rattle.math_fields.specs.Gcd.{gcd}
use Rattle.fpl_numbers.specs.Numbers.{IsElement, most_number, is_nought, is_zero_int, is_within, divided, reduced, residue, residue_of, left_part, right_part, both_parts, shared, sum_below, fraction_sum, fraction_product, fraction_fits, operate}
use Rattle.fpl_numbers.specs.Results.{and_then}
use Rattle.math_fields.proofs.Gcd.{gcd_is}
use Rattle.fpl_numbers.proofs.Integers.{abs_of_positive, positive_is, zero_int_is}
use Rattle.fpl_numbers.proofs.WholeFractions.{gcd-one, times-one, divided-one, within_true}
use Rattle.fpl_scalar.specs.Vectors.{fused}
use Rattle.fpl_scalar.proofs.Choices.{true_both}
use Rattle.fpl_scalar.proofs.FractionArithmetic.{num_same}

zero_int : (z : ℤ) → is_zero_int z ≡ true → z ≡ pos 0
zero_int (pos n) h = ap pos (zero_int_is (pos n) h)
zero_int (negsuc n) h = absurd (let k : ⊥ = cc in k)

-- where the numerator is 0, lowest terms are 0/1
one_below : (d : ℕ) → IsGcd 0 d 1 → 1 ≡ d
one_below d h = same_from_IsGcd 0 d 1 d h (dvd-zero d, dvd_refl d, λ c p q. q)

-- a number that is not told apart from 0 is the residue 0
pub nought_is : (kind : Kind) (x : Num) → IsElement kind x → is_nought x ≡ true → x ≡ residue 0
nought_is Rational x is z =
    let e = zero_int x.numerator z in
    let d = one_below (unsigned_abs x.denominator) (subst (λ n. IsGcd (unsigned_abs n) (unsigned_abs x.denominator) 1) e is.0.lowest) in
    num_same e (positive_is x.denominator is.0.positive ∙ ap pos (sym d))
nought_is (Prime p) x is z = is.0.1 ∙ ap (λ n. residue (unsigned_abs n)) (zero_int x.numerator z)

gcd-nought : (d : ℕ) → gcd 0 d ≡ d
gcd-nought d = same_from_IsGcd 0 d (gcd 0 d) d (gcd_is 0 d) (dvd-zero d, dvd_refl d, λ c p q. q)

by_itself : (d : ℕ) → 0 < d → d / d ≡ 1
by_itself d some = (let e : d ≡ 1 * d = omega arith in ap (λ w. w / d) e) ∙ mul-div_cancel 1 some

reduced_nought : (n : ℤ) (d : ℕ) → n ≡ pos 0 → 0 < d → reduced n d ≡ residue 0
reduced_nought n d e some = ap (λ w. reduced w d) e ∙ num_same (ap pos (zero-div (gcd 0 d))) (ap pos (ap (λ w. d / w) (gcd-nought d) ∙ by_itself d some))

times_nought : (n m : ℤ) → m ≡ pos 0 → n *ℤ m ≡ pos 0
times_nought n m e = ap (λ w. n *ℤ w) e ∙ omega (arith, ints)

module _ (c y : Num) (is_c : IsElement Rational c) (is_y : IsElement Rational y) (nought : is_nought y ≡ true) where
  product_is : fraction_product c y ≡ residue 0
  product_is =
      reduced_nought _ _ (times_nought c.numerator y.numerator (zero_int y.numerator nought))
      (mul-pos (abs_of_positive c.denominator is_c.0.positive) (abs_of_positive y.denominator is_y.0.positive))

  product_nought : operate Rational Mul c y ≡ Ok (residue 0)
  product_nought = ap (λ w. if is_within w.numerator && is_within w.denominator then Ok w else Err (record { op = Mul; a = c; b = y })) product_is

module _ (x : Num) (is : IsElement Rational x) where
  left_is : left_part x (residue 0) ≡ x.numerator
  left_is = ap (λ w. x.numerator *ℤ pos (1 / w)) (gcd-one (unsigned_abs x.denominator)) ∙ times-one x.numerator

  right_is : right_part x (residue 0) ≡ pos 0
  right_is = omega (arith, ints)

  both_is : both_parts x (residue 0) ≡ x.numerator
  both_is = ap₂ (λ n m. n +ℤ m) left_is right_is ∙ omega (arith, ints)

  shared_is : shared x (residue 0) ≡ 1
  shared_is = ap₂ gcd (ap unsigned_abs both_is) (gcd-one (unsigned_abs x.denominator)) ∙ gcd-one (unsigned_abs x.numerator)

  below_is : sum_below x (residue 0) ≡ unsigned_abs x.denominator
  below_is = ap₂ (λ g h. (unsigned_abs x.denominator / g) * (1 / h)) (gcd-one (unsigned_abs x.denominator)) shared_is ∙
      ap (λ w. w * 1) (div-one (unsigned_abs x.denominator)) ∙ mul-one (unsigned_abs x.denominator)

  sum_is : fraction_sum x (residue 0) ≡ x
  sum_is = num_same (ap₂ divided both_is shared_is ∙ divided-one x.numerator) (ap pos below_is ∙ sym (positive_is x.denominator is.0.positive))

  sum_fits : fraction_fits Add x (residue 0) ≡ true
  sum_fits =
      true_both _ _
      (true_both _ _ (true_both _ _ (ap is_within left_is ∙ within_true _ is.1.0) (ap is_within right_is)) (ap is_within both_is ∙ within_true _ is.1.0))
      (ap (λ w. nat_le w most_number) below_is ∙ within_true _ is.1.1)

  sum_nought : operate Rational Add x (residue 0) ≡ Ok x
  sum_nought = ap₂ (λ t w. if t then Ok w else Err (record { op = Add; a = x; b = residue 0 })) sum_fits sum_is

multiplied_residue : (p c y : ℕ) → y ≡ 0 → c * y % p ≡ 0
multiplied_residue p c y e = ap (λ w. c * w % p) e ∙ ap (λ w. w % p) (mul-zero c) ∙ zero-mod p

added_residue : (p x c y : ℕ) → x < p → y ≡ 0 → (x + c * y % p) % p ≡ x
added_residue p x c y l e = ap (λ w. (x + w) % p) (multiplied_residue p c y e) ∙ ap (λ w. w % p) (add-zero x) ∙ mod-eq_of_lt l

pub nothing_added : (kind : Kind) (x c y : Num) → IsElement kind x → IsElement kind c → IsElement kind y → is_nought y ≡ true → fused kind x c y ≡ Ok x
nothing_added Rational x c y is_x is_c is_y z = ap (and_then (λ m. operate Rational Add x m)) (product_nought c y is_c is_y z) ∙ sum_nought x is_x
nothing_added (Prime p) x c y is_x is_c is_y z =
    ap Ok (ap residue (added_residue p (residue_of x) (residue_of c) (residue_of y) is_x.0.0 (zero_int_is y.numerator z)) ∙ sym is_x.0.1)

pub nothing_multiplied : (kind : Kind) (c y : Num) → IsElement kind c → IsElement kind y → is_nought y ≡ true → operate kind Mul c y ≡ Ok y
nothing_multiplied Rational c y is_c is_y z = product_nought c y is_c is_y z ∙ ap Ok (sym (nought_is Rational y is_y z))
nothing_multiplied (Prime p) c y is_c is_y z =
    ap (λ n. Ok (residue n)) (multiplied_residue p (residue_of c) (residue_of y) (zero_int_is y.numerator z)) ∙ ap Ok (sym (nought_is (Prime p) y is_y z))
