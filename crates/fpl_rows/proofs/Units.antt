-- Once a number is that number, nothing and a number are that number, and both fit.
use Rattle.std.specs.Prelude.{ℕ, ◌≡◌, ◌*◌, ◌/◌, ◌%◌, pos, ◌+ℤ◌, ◌*ℤ◌, unsigned_abs, Bool, true, ◌&&◌, nat_le, List, [], ◌∷◌, length, replicate, Result, Ok, Err, if◌then◌else◌}
use Rattle.std.proofs.lemmas.Int.{ints}
use mathlib.Core.Path.{refl, sym, ap, ap₂, ◌∙◌, subst}
use native.Mathlib.Omega.{arith}
use native.Mathlib.Nat.{div-one, mod-eq_of_lt, one-mul, zero-add}
use Rattle.std.proofs.lemmas.Nat.Gcd.{same_from_IsGcd, IsGcd-swap}
use Rattle.std.specs.Int.{IsGcd}
use Rattle.fpl_numbers.specs.declared.number.Num.{Num}
use Rattle.fpl_numbers.specs.declared.number.Kind.{Kind}
use Rattle.fpl_numbers.specs.declared.number.Kind.TheVariants.{Rational, Prime}
use Rattle.fpl_numbers.specs.declared.number.Op.TheVariants.{Add, Mul}
use Rattle.fpl_numbers.specs.declared.number.Unfit.{Unfit}
use Rattle.math_fields.specs.Gcd.{gcd}
use Rattle.math_fields.proofs.Gcd.{gcd_is}
use Rattle.fpl_numbers.specs.Numbers.{IsElement, most_number, is_within, divided, reduced, residue, residue_of, left_part, right_part, both_parts, shared, sum_below, fraction_sum, fraction_product, fraction_fits, operate}
use Rattle.fpl_numbers.specs.Results.{and_then, map_ok}
use Rattle.fpl_numbers.proofs.Integers.{positive_is}
use Rattle.fpl_numbers.proofs.WholeFractions.{gcd-one, times-one, divided-one, within_true}
use Rattle.fpl_scalar.specs.Vectors.{AreElements, fused, axpy_of, scale_of}
use Rattle.fpl_scalar.proofs.Choices.{true_both}
use Rattle.fpl_scalar.proofs.FractionArithmetic.{num_same}
use Rattle.fpl_rows.proofs.Fits.{all_head, all_tail}

one-gcd : (d : ℕ) → gcd 1 d ≡ 1
one-gcd d = same_from_IsGcd 1 d (gcd 1 d) 1 (gcd_is 1 d) (IsGcd-swap d 1 1 (subst (IsGcd d 1) (gcd-one d) (gcd_is d 1)))

-- the answer to a product, where it is y, and whether that fits
abbrev chosen : Bool → Num → Num → Num → Result Num Unfit
chosen t y a b = if t then Ok y else Err (record { op = Mul; a = a; b = b })

abbrev answered : Num → Num → Num → Result Num Unfit
answered y a b = chosen (is_within y.numerator && is_within y.denominator) y a b

module _ (x : Num) (is : IsElement Rational x) where
  reduced_is : reduced x.numerator (unsigned_abs x.denominator) ≡ x
  reduced_is =
      let g : gcd (unsigned_abs x.numerator) (unsigned_abs x.denominator) ≡ 1 = same_from_IsGcd _ _ _ 1
      (gcd_is (unsigned_abs x.numerator) (unsigned_abs x.denominator)) is.0.lowest in
      num_same (ap (divided x.numerator) g ∙ divided-one x.numerator) (ap (λ w. pos (unsigned_abs x.denominator / w)) g ∙
      ap pos (div-one (unsigned_abs x.denominator)) ∙ sym (positive_is x.denominator is.0.positive))

  fits_is : is_within x.numerator && is_within x.denominator ≡ true
  fits_is = true_both _ _ (within_true _ is.1.0) (within_true _ is.1.1)

  product_is : (y : Num) → y ≡ x → answered y (residue 1) x ≡ Ok x
  product_is y e = ap (λ w. answered w (residue 1) x) e ∙ ap (λ t. chosen t x (residue 1) x) fits_is

  left_is : left_part (residue 0) x ≡ pos 0
  left_is = omega (arith, ints)

  right_is : right_part (residue 0) x ≡ x.numerator
  right_is = ap (λ w. x.numerator *ℤ pos (1 / w)) (one-gcd (unsigned_abs x.denominator)) ∙ times-one x.numerator

  both_is : both_parts (residue 0) x ≡ x.numerator
  both_is = ap₂ (λ a b. a +ℤ b) left_is right_is ∙ omega (arith, ints)

  shared_is : shared (residue 0) x ≡ 1
  shared_is = ap₂ gcd (ap unsigned_abs both_is) (one-gcd (unsigned_abs x.denominator)) ∙ gcd-one (unsigned_abs x.numerator)

  below_is : sum_below (residue 0) x ≡ unsigned_abs x.denominator
  below_is = ap₂ (λ g h. (1 / g) * (unsigned_abs x.denominator / h)) (one-gcd (unsigned_abs x.denominator)) shared_is ∙
      ap (λ w. 1 * w) (div-one (unsigned_abs x.denominator)) ∙ one-mul (unsigned_abs x.denominator)

  sum_is : fraction_sum (residue 0) x ≡ x
  sum_is = num_same (ap₂ divided both_is shared_is ∙ divided-one x.numerator) (ap pos below_is ∙ sym (positive_is x.denominator is.0.positive))

  sum_fits : fraction_fits Add (residue 0) x ≡ true
  sum_fits =
      true_both _ _
      (true_both _ _ (true_both _ _ (ap is_within left_is) (ap is_within right_is ∙ within_true _ is.1.0)) (ap is_within both_is ∙ within_true _ is.1.0))
      (ap (λ w. nat_le w most_number) below_is ∙ within_true _ is.1.1)

  sum_nought : operate Rational Add (residue 0) x ≡ Ok x
  sum_nought = ap₂ (λ t w. if t then Ok w else Err (record { op = Add; a = residue 0; b = x })) sum_fits sum_is

-- one time a number is the number
pub one_times : (kind : Kind) (x : Num) → IsElement kind x → operate kind Mul (residue 1) x ≡ Ok x
one_times Rational x is =
    product_is x is (fraction_product (residue 1) x)
    (ap₂ reduced (let e : pos 1 *ℤ x.numerator ≡ x.numerator = omega (arith, ints) in e) (one-mul (unsigned_abs x.denominator)) ∙ reduced_is x is)
one_times (Prime p) x is = ap (λ w. Ok (residue (w % p))) (one-mul (residue_of x)) ∙ ap (λ w. Ok (residue w)) (mod-eq_of_lt is.0.0) ∙ ap Ok (sym is.0.1)

-- nothing and a number are the number
pub nought_and : (kind : Kind) (x : Num) → IsElement kind x → operate kind Add (residue 0) x ≡ Ok x
nought_and Rational x is = sum_nought x is
nought_and (Prime p) x is = ap (λ w. Ok (residue (w % p))) (zero-add (residue_of x)) ∙ ap (λ w. Ok (residue w)) (mod-eq_of_lt is.0.0) ∙ ap Ok (sym is.0.1)

pub fused_one : (kind : Kind) (x y : Num) → IsElement kind y → fused kind x (residue 1) y ≡ operate kind Add x y
fused_one kind x y is = ap (and_then (λ m. operate kind Add x m)) (one_times kind y is)

-- a row that is put over nothing
pub loaded : (kind : Kind) (ys : List Num) → AreElements kind ys → axpy_of kind (replicate (length ys) (residue 0)) (residue 1) ys ≡ Ok ys
loaded kind [] all = refl
loaded kind (y ∷ ys) all =
    ap (and_then (λ s. map_ok (λ rest. s ∷ rest) (axpy_of kind (replicate (length ys) (residue 0)) (residue 1) ys)))
    (fused_one kind (residue 0) y (all_head (IsElement kind) y ys all) ∙ nought_and kind y (all_head (IsElement kind) y ys all))
    ∙ ap (map_ok (λ rest. y ∷ rest)) (loaded kind ys (all_tail (IsElement kind) y ys all))

-- a row that is multiplied by 1
pub scale_one : (kind : Kind) (xs : List Num) → AreElements kind xs → scale_of kind (residue 1) xs ≡ Ok xs
scale_one kind [] all = refl
scale_one kind (x ∷ xs) all =
    ap (and_then (λ m. map_ok (λ rest. m ∷ rest) (scale_of kind (residue 1) xs))) (one_times kind x (all_head (IsElement kind) x xs all))
    ∙ ap (map_ok (λ rest. x ∷ rest)) (scale_one kind xs (all_tail (IsElement kind) x xs all))
