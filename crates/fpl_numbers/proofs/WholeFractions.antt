-- Sums and products of whole numbers as fractions over 1.
use Rattle.std.specs.Prelude.{ℕ, ◌≡◌, ◌≤◌, ◌+◌, ◌*◌, ◌/◌, ℤ, pos, ◌+ℤ◌, ◌*ℤ◌, unsigned_abs, Bool, true, false, ◌&&◌, nat_le}
use mathlib.Core.Path.{refl, sym, ap, ap₂, ◌∙◌}
use native.Mathlib.Omega.{arith}
use native.Mathlib.Nat.{div-one, one-dvd, dvd_refl}
use Rattle.std.proofs.lemmas.Nat.Gcd.{same_from_IsGcd}
use Rattle.fpl_numbers.specs.declared.number.Num.{Num}
use Rattle.fpl_numbers.specs.declared.number.Op.TheVariants.{Add, Mul}
use Rattle.math_fields.specs.Gcd.{gcd}
use Rattle.fpl_numbers.specs.Numbers.{most_number, is_within, divided, left_part, right_part, both_parts, shared, sum_below, fraction_sum, fraction_product, fraction_fits}
use Rattle.fpl_numbers.specs.Kinds.{up_part, down_part}
use Rattle.math_fields.proofs.Gcd.{gcd_is}
use Rattle.fpl_numbers.proofs.Integers.{up-mul, down-mul, up-divided, down-divided, int_same}

pub gcd-one : (n : ℕ) → gcd n 1 ≡ 1
gcd-one n = same_from_IsGcd n 1 (gcd n 1) 1 (gcd_is n 1) (one-dvd n, dvd_refl 1, λ c p q. q)

pub times-one : (z : ℤ) → z *ℤ pos 1 ≡ z
times-one z = int_same (z *ℤ pos 1) z (omega (arith, up-mul z (pos 1), down-mul z (pos 1)))

pub divided-one : (z : ℤ) → divided z 1 ≡ z
divided-one z = int_same (divided z 1) z (ap₂ (λ u v. u + v) (up-divided z 1 ∙ div-one (up_part z)) (sym (down-divided z 1 ∙ div-one (down_part z))))

pub num_same : {n n' d d' : ℤ} → n ≡ n' → d ≡ d' → Path Num (record { numerator = n; denominator = d }) (record { numerator = n'; denominator = d' })
num_same p q i = record { numerator = p i; denominator = q i }

pub within_true : (n : ℕ) → n ≤ most_number → nat_le n most_number ≡ true
within_true n h = grind arith

-- a number over 1
abbrev pub over_one : ℤ → Num
over_one n = record { numerator = n; denominator = pos 1 }

module _ (n m : ℤ) where
  left_is : left_part (over_one n) (over_one m) ≡ n
  left_is = ap (λ w. n *ℤ pos (1 / w)) (gcd-one 1) ∙ times-one n

  right_is : right_part (over_one n) (over_one m) ≡ m
  right_is = ap (λ w. m *ℤ pos (1 / w)) (gcd-one 1) ∙ times-one m

  both_is : both_parts (over_one n) (over_one m) ≡ n +ℤ m
  both_is = ap₂ (λ x y. x +ℤ y) left_is right_is

  shared_is : shared (over_one n) (over_one m) ≡ 1
  shared_is = ap₂ gcd (ap unsigned_abs both_is) (gcd-one 1) ∙ gcd-one (unsigned_abs (n +ℤ m))

  below_is : sum_below (over_one n) (over_one m) ≡ 1
  below_is = ap₂ (λ x y. (1 / x) * (1 / y)) (gcd-one 1) shared_is

  pub whole_sum_is : fraction_sum (over_one n) (over_one m) ≡ over_one (n +ℤ m)
  whole_sum_is = num_same (ap₂ divided both_is shared_is ∙ divided-one (n +ℤ m)) (ap pos below_is)

  pub whole_sum_fits : unsigned_abs n ≤ most_number → unsigned_abs m ≤ most_number → fraction_fits Add (over_one n) (over_one m) ≡ is_within (n +ℤ m)
  whole_sum_fits h k =
      ap₂ (λ x y. x && y)
      (ap₂ (λ x y. x && y) (ap₂ (λ x y. x && y) (ap is_within left_is ∙ within_true (unsigned_abs n) h)
      (ap is_within right_is ∙ within_true (unsigned_abs m) k)) (ap is_within both_is))
      (ap (λ w. nat_le w most_number) below_is)
      ∙ and_true (is_within (n +ℤ m))
    where
      and_true : (b : Bool) → (true && true && b && nat_le 1 most_number) ≡ b
      and_true true = refl
      and_true false = refl

  pub whole_product_is : fraction_product (over_one n) (over_one m) ≡ over_one (n *ℤ m)
  whole_product_is = num_same (ap (divided (n *ℤ m)) (gcd-one (unsigned_abs (n *ℤ m))) ∙ divided-one (n *ℤ m))
      (ap (λ w. pos (1 / w)) (gcd-one (unsigned_abs (n *ℤ m))))

  pub whole_product_fits : fraction_fits Mul (over_one n) (over_one m) ≡ is_within (n *ℤ m)
  whole_product_fits = ap (λ w. is_within w.numerator && is_within w.denominator) whole_product_is ∙ and_true (is_within (n *ℤ m))
    where
      and_true : (b : Bool) → (b && is_within (pos 1)) ≡ b
      and_true true = refl
      and_true false = refl
