-- The sum of two fractions in lowest terms, as it is formed, is in lowest terms.
use Rattle.std.specs.Prelude.{ℕ, ◌≡◌, ◌<◌, ◌*◌, ◌/◌, pos, unsigned_abs}
use Rattle.std.specs.Int.{IsGcd}
use mathlib.Core.Path.{sym, ap, subst}
use Prim.Native.Nat.{◌∣◌}
use native.Mathlib.Omega.{arith}
use native.Mathlib.Nat.{dvd_trans, dvd-mul_right, dvd-mul_left_of_dvd, div-mul_cancel, div-eq_of_eq-mul_left, pos_of_dvd_of_pos, mul_comm, mul-pos, one-dvd}
use Rattle.std.proofs.lemmas.Nat.Gcd.{IsGcd-swap}
use Rattle.math_fields.proofs.Divisors.{gauss, divisor_apart, apart-mul, quotients_apart, quotient_positive}
use Rattle.fpl_numbers.specs.declared.number.Num.{Num}
use Rattle.fpl_numbers.specs.Numbers.{IsLowest, common, left_part, right_part, both_parts, shared, sum_below, fraction_sum}
use Rattle.math_fields.proofs.Gcd.{gcd_is}
use Rattle.fpl_numbers.proofs.Integers.{abs-mul, abs-divided, dvd_left_part, dvd_right_part, positive_int}
use Rattle.fpl_numbers.proofs.Fractions.{size, below, below_positive}

module _ (a b : Num) (is_a : IsLowest a) (is_b : IsLowest b) where
  pub is_g : IsGcd (below a) (below b) (common a b)
  is_g = gcd_is (below a) (below b)

  pub is_h : IsGcd (unsigned_abs (both_parts a b)) (common a b) (shared a b)
  is_h = gcd_is (unsigned_abs (both_parts a b)) (common a b)

  some_g : 0 < common a b
  some_g = pos_of_dvd_of_pos is_g.0 (below_positive a is_a)

  some_h : 0 < shared a b
  some_h = pos_of_dvd_of_pos is_h.1 some_g

  parts_apart : IsGcd (below a / common a b) (below b / common a b) 1
  parts_apart = quotients_apart (below a) (below b) (common a b) some_g is_g

  left_is : unsigned_abs (left_part a b) ≡ size a * (below b / common a b)
  left_is = abs-mul a.numerator (pos (below b / common a b))

  right_is : unsigned_abs (right_part a b) ≡ size b * (below a / common a b)
  right_is = abs-mul b.numerator (pos (below a / common a b))

  -- the sum has no common divisor with the left denominator's part
  left_apart : IsGcd (unsigned_abs (both_parts a b)) (below a / common a b) 1
  left_apart = (
    one-dvd _,
    one-dvd _,
    λ x p q.
        let r : x ∣ unsigned_abs (right_part a b) = subst (λ w. x ∣ w) (sym right_is) (dvd-mul_left_of_dvd x q (size b)) in
        let l : x ∣ size a * (below b / common a b) = subst (λ w. x ∣ w) left_is (dvd_left_part x (left_part a b) (right_part a b) p r) in
        let n : x ∣ size a = gauss x (below b / common a b) (size a) (divisor_apart x _ _ q parts_apart)
        (subst (λ w. x ∣ w) (mul_comm (size a) (below b / common a b)) l) in
        is_a.lowest.2 x n (dvd_trans x q (subst (λ w. (below a / common a b) ∣ w) (div-mul_cancel (common a b) is_g.0)
        (dvd-mul_right (below a / common a b) (common a b)))),
  )

  right_apart : IsGcd (unsigned_abs (both_parts a b)) (below b / common a b) 1
  right_apart = (
    one-dvd _,
    one-dvd _,
    λ x p q.
        let l : x ∣ unsigned_abs (left_part a b) = subst (λ w. x ∣ w) (sym left_is) (dvd-mul_left_of_dvd x q (size a)) in
        let r : x ∣ size b * (below a / common a b) = subst (λ w. x ∣ w) right_is (dvd_right_part x (left_part a b) (right_part a b) p l) in
        let n : x ∣ size b = gauss x (below a / common a b) (size b) (divisor_apart x _ _ q (IsGcd-swap _ _ 1 parts_apart))
        (subst (λ w. x ∣ w) (mul_comm (size b) (below a / common a b)) r) in
        is_b.lowest.2 x n (dvd_trans x q (subst (λ w. (below b / common a b) ∣ w) (div-mul_cancel (common a b) is_g.1)
        (dvd-mul_right (below b / common a b) (common a b)))),
  )

  pub h_below : shared a b ∣ below b
  h_below = dvd_trans (shared a b) is_h.1 is_g.1

  -- the right denominator over h, in two factors
  below_is : below b / shared a b ≡ (below b / common a b) * (common a b / shared a b)
  below_is = div-eq_of_eq-mul_left some_h (split (below b) (common a b) (shared a b) _ _ (sym (div-mul_cancel (common a b) is_g.1))
      (sym (div-mul_cancel (shared a b) is_h.1)))
    where
      split : (d g h p q : ℕ) → d ≡ p * g → g ≡ q * h → d ≡ p * q * h
      split d g h p q e f = omega (arith, e, ap (λ w. p * w) f)

  -- the sum over h
  numerator_dvd : unsigned_abs (both_parts a b) / shared a b ∣ unsigned_abs (both_parts a b)
  numerator_dvd = subst (λ w. (unsigned_abs (both_parts a b) / shared a b) ∣ w) (div-mul_cancel (shared a b) is_h.0) (dvd-mul_right _ (shared a b))

  apart : IsGcd (unsigned_abs (both_parts a b) / shared a b) (sum_below a b) 1
  apart = subst (λ w. IsGcd (unsigned_abs (both_parts a b) / shared a b) ((below a / common a b) * w) 1) (sym below_is)
      (apart-mul _ _ _ (divisor_apart _ _ _ numerator_dvd left_apart)
      (apart-mul _ _ _ (divisor_apart _ _ _ numerator_dvd right_apart) (quotients_apart _ _ (shared a b) some_h is_h)))

  positive : 0 < sum_below a b
  positive = mul-pos (quotient_positive (below a) (common a b) (below_positive a is_a) is_g.0)
      (quotient_positive (below b) (shared a b) (below_positive b is_b) h_below)

  pub sum_lowest : IsLowest (fraction_sum a b)
  sum_lowest = record {
    positive = positive_int (sum_below a b) positive;
    lowest = subst (λ w. IsGcd w (sum_below a b) 1) (sym (abs-divided (both_parts a b) (shared a b))) apart;
  }
