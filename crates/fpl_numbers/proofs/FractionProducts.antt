-- The product of two fractions in lowest terms, formed so that no part is greater than that of the result:
-- each numerator and the other denominator are first divided by their greatest common divisor.
use Rattle.std.specs.Prelude.{ℕ, ◌≡◌, ◌<◌, ◌+◌, ◌*◌, ◌/◌, ℤ, pos, ◌*ℤ◌, unsigned_abs}
use Rattle.std.specs.Int.{IsGcd}
use mathlib.Core.Path.{sym, ap, ap₂, ◌∙◌, subst}
use native.Mathlib.Omega.{arith}
use native.Mathlib.Nat.{div-mul_cancel, dvd-mul_right, eq_of_mul-eq-mul_right, eq_of_mul-eq-mul_left, mul-pos, pos_of_dvd_of_pos}
use Prim.Native.Nat.{◌∣◌}
use Rattle.std.proofs.lemmas.Nat.Gcd.{IsGcd-swap}
use Rattle.math_fields.proofs.Divisors.{divisor_apart, apart-mul, quotients_apart, quotient_positive, lowest_equal}
use Rattle.fpl_numbers.specs.declared.number.Num.{Num}
use Rattle.math_fields.specs.Gcd.{gcd}
use Rattle.fpl_numbers.specs.Numbers.{IsLowest, divided, fraction_product}
use Rattle.fpl_numbers.specs.Kinds.{up_part, down_part}
use Rattle.math_fields.proofs.Gcd.{gcd_is}
use Rattle.fpl_numbers.proofs.Integers.{abs-mul, up_times, down_times, up-mul, down-mul, int_same}
use Rattle.fpl_numbers.proofs.Fractions.{size, below, below_positive}

module _ (a b : Num) (is_a : IsLowest a) (is_b : IsLowest b) where
  -- the divisors of the one numerator and the other denominator
  abbrev pub left_gcd : ℕ
  left_gcd = gcd (size a) (below b)

  abbrev pub right_gcd : ℕ
  right_gcd = gcd (size b) (below a)

  abbrev pub cancelled_above : ℤ
  cancelled_above = divided a.numerator left_gcd *ℤ divided b.numerator right_gcd

  abbrev pub cancelled_below : ℕ
  cancelled_below = (below a / right_gcd) * (below b / left_gcd)

  pub is_left : IsGcd (size a) (below b) left_gcd
  is_left = gcd_is (size a) (below b)

  pub is_right : IsGcd (size b) (below a) right_gcd
  is_right = gcd_is (size b) (below a)

  pub some_left : 0 < left_gcd
  some_left = pos_of_dvd_of_pos is_left.1 (below_positive b is_b)

  pub some_right : 0 < right_gcd
  some_right = pos_of_dvd_of_pos is_right.1 (below_positive a is_a)

  part_dvd : (n d : ℕ) → d ∣ n → (n / d) ∣ n
  part_dvd n d h = subst (λ w. (n / d) ∣ w) (div-mul_cancel d h) (dvd-mul_right (n / d) d)

  -- a part of a numerator and a part of its own denominator
  own_apart : (n d g h : ℕ) → IsGcd n d 1 → g ∣ n → h ∣ d → IsGcd (n / g) (d / h) 1
  own_apart n d g h is p q = divisor_apart (n / g) n (d / h) (part_dvd n g p) (IsGcd-swap _ _ 1
      (divisor_apart (d / h) d n (part_dvd d h q) (IsGcd-swap n d 1 is)))

  parts_apart : IsGcd ((size a / left_gcd) * (size b / right_gcd)) cancelled_below 1
  parts_apart =
      apart-mul _ (below a / right_gcd) (below b / left_gcd)
      (IsGcd-swap _ _ 1 (apart-mul _ _ _ (IsGcd-swap _ _ 1 (own_apart _ _ _ _ is_a.lowest is_left.0 is_right.1))
      (IsGcd-swap _ _ 1 (quotients_apart _ _ right_gcd some_right is_right))))
      (IsGcd-swap _ _ 1 (apart-mul _ _ _ (IsGcd-swap _ _ 1 (quotients_apart _ _ left_gcd some_left is_left))
      (IsGcd-swap _ _ 1 (own_apart _ _ _ _ is_b.lowest is_right.0 is_left.1))))

  is_whole : IsGcd (unsigned_abs (a.numerator *ℤ b.numerator)) (below a * below b) (gcd (unsigned_abs (a.numerator *ℤ b.numerator)) (below a * below b))
  is_whole = gcd_is (unsigned_abs (a.numerator *ℤ b.numerator)) (below a * below b)

  some_below : 0 < below a * below b
  some_below = mul-pos (below_positive a is_a) (below_positive b is_b)

  below_split : below a * below b ≡ cancelled_below * (left_gcd * right_gcd)
  below_split = ap₂ (λ x y. x * y) (sym (div-mul_cancel right_gcd is_right.1)) (sym (div-mul_cancel left_gcd is_left.1)) ∙ turn _ _ _ _
    where
      turn : (p g q h : ℕ) → p * g * (q * h) ≡ p * q * (h * g)
      turn p g q h = omega arith

  above_split : unsigned_abs (a.numerator *ℤ b.numerator) ≡ (size a / left_gcd) * (size b / right_gcd) * (left_gcd * right_gcd)
  above_split = abs-mul a.numerator b.numerator ∙ ap₂ (λ x y. x * y) (sym (div-mul_cancel left_gcd is_left.0))
      (sym (div-mul_cancel right_gcd is_right.0)) ∙ turn _ _ _ _
    where
      turn : (p g q h : ℕ) → p * g * (q * h) ≡ p * q * (g * h)
      turn p g q h = omega arith

  cancelled_positive : 0 < cancelled_below
  cancelled_positive = mul-pos (quotient_positive (below a) right_gcd (below_positive a is_a) is_right.1)
      (quotient_positive (below b) left_gcd (below_positive b is_b) is_left.1)

  -- both are the product in lowest terms
  equal : (unsigned_abs (a.numerator *ℤ b.numerator) / gcd (unsigned_abs (a.numerator *ℤ b.numerator)) (below a * below b)
      ≡ (size a / left_gcd) * (size b / right_gcd))
      × ((below a * below b) / gcd (unsigned_abs (a.numerator *ℤ b.numerator)) (below a * below b) ≡ cancelled_below)
  equal =
      lowest_equal _ _ _ cancelled_below cancelled_positive (quotients_apart _ _ _ (pos_of_dvd_of_pos is_whole.1 some_below) is_whole) parts_apart
      (crossed _ _ _ _ (gcd (unsigned_abs (a.numerator *ℤ b.numerator)) (below a * below b)) (left_gcd * right_gcd)
      (pos_of_dvd_of_pos is_whole.1 some_below) (mul-pos some_left some_right)
      (div-mul_cancel _ is_whole.0 ∙ above_split) (div-mul_cancel _ is_whole.1 ∙ below_split))
    where
      crossed : (n d m e g h : ℕ) → 0 < g → 0 < h → n * g ≡ m * h → d * g ≡ e * h → n * e ≡ m * d
      crossed n d m e g h some more p q =
          eq_of_mul-eq-mul_right (g * h) (mul-pos some more) (n * e) (m * d)
          (let k : n * g * (e * h) ≡ m * h * (d * g) = ap₂ (λ x y. x * y) p (sym q) in turned n d m e g h k)
        where
          turned : (n d m e g h : ℕ) → n * g * (e * h) ≡ m * h * (d * g) → n * e * (g * h) ≡ m * d * (g * h)
          turned n d m e g h k = omega arith

  gcd_split : gcd (unsigned_abs (a.numerator *ℤ b.numerator)) (below a * below b) ≡ left_gcd * right_gcd
  gcd_split = eq_of_mul-eq-mul_left cancelled_below cancelled_positive _ _
      (ap (λ w. w * gcd (unsigned_abs (a.numerator *ℤ b.numerator)) (below a * below b)) (sym equal.1) ∙ div-mul_cancel _ is_whole.1 ∙ below_split)

  numerators : divided (a.numerator *ℤ b.numerator) (gcd (unsigned_abs (a.numerator *ℤ b.numerator)) (below a * below b)) ≡ cancelled_above
  numerators = int_same _ _ (ap₂ (λ x y. x + y) ups (sym downs))
    where
      some : 0 < left_gcd * right_gcd
      some = mul-pos some_left some_right

      ups : up_part (divided (a.numerator *ℤ b.numerator) (gcd (unsigned_abs (a.numerator *ℤ b.numerator)) (below a * below b))) ≡ up_part cancelled_above
      ups =
          eq_of_mul-eq-mul_right (left_gcd * right_gcd) some _ _
          (ap (λ w. up_part (divided (a.numerator *ℤ b.numerator) (gcd (unsigned_abs (a.numerator *ℤ b.numerator)) (below a * below b))) * w) (sym gcd_split)
          ∙ sym (up_times (a.numerator *ℤ b.numerator) _ is_whole.0) ∙ up-mul a.numerator b.numerator
          ∙ spread (up_part a.numerator) (down_part a.numerator) (up_part b.numerator) (down_part b.numerator) _ _ _ _ left_gcd right_gcd
          (up_times a.numerator left_gcd is_left.0) (down_times a.numerator left_gcd is_left.0) (up_times b.numerator right_gcd is_right.0)
          (down_times b.numerator right_gcd is_right.0)
          ∙ ap (λ w. w * (left_gcd * right_gcd)) (sym (up-mul (divided a.numerator left_gcd) (divided b.numerator right_gcd))))
        where
          spread : (u v w x u' v' w' x' g h : ℕ) → u ≡ u' * g → v ≡ v' * g → w ≡ w' * h → x ≡ x' * h → u * w + v * x ≡ (u' * w' + v' * x') * (g * h)
          spread u v w x u' v' w' x' g h p q r s = ap₂ (λ m n. m + n) (ap₂ (λ m n. m * n) p r) (ap₂ (λ m n. m * n) q s) ∙ omega arith

      downs : down_part (divided (a.numerator *ℤ b.numerator) (gcd (unsigned_abs (a.numerator *ℤ b.numerator)) (below a * below b))) ≡ down_part cancelled_above
      downs =
          eq_of_mul-eq-mul_right (left_gcd * right_gcd) some _ _
          (ap (λ w. down_part (divided (a.numerator *ℤ b.numerator) (gcd (unsigned_abs (a.numerator *ℤ b.numerator)) (below a * below b))) * w) (sym gcd_split)
          ∙ sym (down_times (a.numerator *ℤ b.numerator) _ is_whole.0) ∙ down-mul a.numerator b.numerator
          ∙ spread (up_part a.numerator) (down_part a.numerator) (up_part b.numerator) (down_part b.numerator) _ _ _ _ left_gcd right_gcd
          (up_times a.numerator left_gcd is_left.0) (down_times a.numerator left_gcd is_left.0) (up_times b.numerator right_gcd is_right.0)
          (down_times b.numerator right_gcd is_right.0)
          ∙ ap (λ w. w * (left_gcd * right_gcd)) (sym (down-mul (divided a.numerator left_gcd) (divided b.numerator right_gcd))))
        where
          spread : (u v w x u' v' w' x' g h : ℕ) → u ≡ u' * g → v ≡ v' * g → w ≡ w' * h → x ≡ x' * h → u * x + v * w ≡ (u' * x' + v' * w') * (g * h)
          spread u v w x u' v' w' x' g h p q r s = ap₂ (λ m n. m + n) (ap₂ (λ m n. m * n) p s) (ap₂ (λ m n. m * n) q r) ∙ omega arith

  pub product_cancelled : fraction_product a b ≡ record { numerator = cancelled_above; denominator = pos cancelled_below }
  product_cancelled i = record { numerator = numerators i; denominator = pos (equal.1 i) }
