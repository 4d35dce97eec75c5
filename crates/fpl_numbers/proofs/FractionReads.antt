-- The exact operations on fractions in lowest terms are those of the field of fractions.
use Rattle.std.specs.Prelude.{ℕ, suc, pred, ◌≡◌, ◌≢◌, ◌<◌, ◌+◌, ◌*◌, ◌/◌, ◌⊎◌, ℤ, pos, negsuc, ◌*ℤ◌, ◌<ℤ◌, unsigned_abs, true, false}
use Rattle.std.specs.Int.{IsGcd}
use mathlib.Core.Path.{refl, sym, ap, ap₂, ◌∙◌, subst, subst₂}
use mathlib.Core.Logic.{inl, inr}
use native.Mathlib.Omega.{arith}
use native.Mathlib.Nat.{div-mul_cancel, mul-pos, pos_of_dvd_of_pos, eq_of_mul-eq-mul_right}
use Rattle.std.proofs.lemmas.Nat.Gcd.{IsGcd-swap}
use Rattle.math_fields.proofs.Divisors.{quotients_apart, quotient_positive, lowest_equal}
use Rattle.math_fields.specs.Ratios.{Alike, lowest, ratio_plus, ratio_times, ratio_minus}
use Rattle.math_fields.proofs.Fractions.{alike_by, by_product}
use Rattle.math_fields.proofs.LowestTerms.{alike_of_lowest, lowest_same_of}
use Rattle.math_fields.proofs.FromNormal.{number_same, right-plus, right-times}
use Rattle.fpl_numbers.specs.declared.number.Num.{Num}
use Rattle.fpl_numbers.specs.declared.number.Kind.TheVariants.{Rational}
use Rattle.math_fields.specs.Gcd.{gcd}
use Rattle.fpl_numbers.specs.Numbers.{IsLowest, common, left_part, right_part, both_parts, shared, sum_below, fraction_sum, fraction_product, negative_of, inverse_of, inverted, is_nought, is_zero_int}
use Rattle.fpl_numbers.specs.Fields.{field_of_normal, fraction_normal}
use Rattle.fpl_numbers.specs.Kinds.{up_part, down_part, field_of, number_of}
use Rattle.fpl_numbers.specs.Reads.{ReadsExactly}
use Rattle.fpl_numbers.proofs.Inverses.{inverse_same}
use Rattle.math_fields.proofs.Gcd.{gcd_is}
use Rattle.fpl_numbers.proofs.Integers.{abs_is, up-neg, down-neg, abs-neg, sum_parts, up-mul, down-mul, up_times, down_times, abs-divided, zero_int_is, nonzero_int_is, int_same, one_part, positive_is, positive_int}
use Rattle.fpl_numbers.proofs.Fractions.{up, down, size, below, raw, suc_pred, below_positive, raw_alike}
use Rattle.fpl_numbers.proofs.FractionSums.{is_g, is_h, h_below, sum_lowest}

-- ---- sums
sum_cross : (ua va da ub vb db g b1 e1 tu tv h cu cv e2 : ℕ) → da ≡ b1 * g → db ≡ e1 * g → db ≡ e2 * h →
    tu + (va * e1 + vb * b1) ≡ ua * e1 + ub * b1 + tv → tu ≡ cu * h → tv ≡ cv * h →
    cu * (da * db) + (va * db + vb * da) * (b1 * e2) ≡ (ua * db + ub * da) * (b1 * e2) + cv * (da * db)
sum_cross ua va da ub vb db g b1 e1 tu tv h cu cv e2 pa pb qb s pu pv =
    let k1 : cu * (da * db) ≡ cu * ((b1 * g) * (e2 * h)) = ap₂ (λ x y. cu * (x * y)) pa qb in
    let k2 : cv * (da * db) ≡ cv * ((b1 * g) * (e2 * h)) = ap₂ (λ x y. cv * (x * y)) pa qb in
    let k3 : (va * db + vb * da) * (b1 * e2) ≡ (va * (e1 * g) + vb * (b1 * g)) * (b1 * e2) = ap₂ (λ x y. (va * y + vb * x) * (b1 * e2)) pa pb in
    let k4 : (ua * db + ub * da) * (b1 * e2) ≡ (ua * (e1 * g) + ub * (b1 * g)) * (b1 * e2) = ap₂ (λ x y. (ua * y + ub * x) * (b1 * e2)) pa pb in
    let k5 : tu * (g * b1 * e2) ≡ cu * h * (g * b1 * e2) = ap (λ w. w * (g * b1 * e2)) pu in
    let k6 : tv * (g * b1 * e2) ≡ cv * h * (g * b1 * e2) = ap (λ w. w * (g * b1 * e2)) pv in
    let k7 : (tu + (va * e1 + vb * b1)) * (g * b1 * e2) ≡ (ua * e1 + ub * b1 + tv) * (g * b1 * e2) = ap (λ w. w * (g * b1 * e2)) s in
    go cu cv ua va ub vb g b1 e1 h e2 tu tv _ _ _ _ k1 k2 k3 k4 k5 k6 k7
  where
    go : (cu cv ua va ub vb g b1 e1 h e2 tu tv m1 m2 m3 m4 : ℕ) →
        m1 ≡ cu * ((b1 * g) * (e2 * h)) → m2 ≡ cv * ((b1 * g) * (e2 * h)) →
        m3 ≡ (va * (e1 * g) + vb * (b1 * g)) * (b1 * e2) → m4 ≡ (ua * (e1 * g) + ub * (b1 * g)) * (b1 * e2) →
        tu * (g * b1 * e2) ≡ cu * h * (g * b1 * e2) → tv * (g * b1 * e2) ≡ cv * h * (g * b1 * e2) →
        (tu + (va * e1 + vb * b1)) * (g * b1 * e2) ≡ (ua * e1 + ub * b1 + tv) * (g * b1 * e2) →
        m1 + m3 ≡ m4 + m2
    go cu cv ua va ub vb g b1 e1 h e2 tu tv m1 m2 m3 m4 k1 k2 k3 k4 k5 k6 k7 = omega arith

two_below : (a b : Num) → IsLowest a → IsLowest b → pred (below a) * pred (below b) + pred (below a) + pred (below b) + 1 ≡ below a * below b
two_below a b is_a is_b = by_product (pred (below a)) (pred (below b)) ∙ ap₂ (λ x y. x * y) (suc_pred (below a) (below_positive a is_a))
    (suc_pred (below b) (below_positive b is_b))

sum_alike : (a b : Num) → IsLowest a → IsLowest b → Alike (raw (fraction_sum a b)) (ratio_plus (raw a) (raw b))
sum_alike a b is_a is_b =
    raw_alike (fraction_sum a b) (ratio_plus (raw a) (raw b)) (below a * below b) (below_positive (fraction_sum a b) (sum_lowest a b is_a is_b))
    (two_below a b is_a is_b)
    (subst₂ (λ x y. up (fraction_sum a b) * (below a * below b) + (down a * y + down b * x) * sum_below a b ≡ (up a * y + up b * x) * sum_below a b +
    down (fraction_sum a b) * (below a * below b))
    (sym (suc_pred (below a) (below_positive a is_a))) (sym (suc_pred (below b) (below_positive b is_b)))
    (sum_cross (up a) (down a) (below a) (up b) (down b) (below b) (common a b) (below a / common a b) (below b / common a b)
    (up_part (both_parts a b)) (down_part (both_parts a b)) (shared a b) (up (fraction_sum a b)) (down (fraction_sum a b)) (below b / shared a b)
    (sym (div-mul_cancel (common a b) (is_g a b is_a is_b).0)) (sym (div-mul_cancel (common a b) (is_g a b is_a is_b).1))
    (sym (div-mul_cancel (shared a b) (h_below a b is_a is_b)))
    (formed (below a / common a b) (below b / common a b) _ _ _ _ (sum_parts (left_part a b) (right_part a b))
    (up-mul a.numerator (pos (below b / common a b))) (down-mul a.numerator (pos (below b / common a b)))
    (up-mul b.numerator (pos (below a / common a b))) (down-mul b.numerator (pos (below a / common a b))))
    (up_times (both_parts a b) (shared a b) (is_h a b is_a is_b).0) (down_times (both_parts a b) (shared a b) (is_h a b is_a is_b).0)))
  where
    formed : (b1 e1 ul dl ur dr : ℕ) → up_part (both_parts a b) + (dl + dr) ≡ ul + ur + down_part (both_parts a b) →
        ul ≡ up a * e1 + down a * 0 → dl ≡ up a * 0 + down a * e1 → ur ≡ up b * b1 + down b * 0 → dr ≡ up b * 0 + down b * b1 →
        up_part (both_parts a b) + (down a * e1 + down b * b1) ≡ up a * e1 + up b * b1 + down_part (both_parts a b)
    formed b1 e1 ul dl ur dr s p q r t = omega (arith, s, p, q, r, t)

sum_reads : (a b : Num) → IsLowest a → IsLowest b → lowest (raw (fraction_sum a b)) ≡ lowest (ratio_plus (lowest (raw a)) (lowest (raw b)))
unfolding fraction_normal
sum_reads a b is_a is_b =
    lowest_same_of _ _ (sum_alike a b is_a is_b) ∙ sym (right-plus fraction_normal (raw a) (raw b)) ∙ sym (fraction_normal.norm-plus (raw a) (lowest (raw b)))

-- ---- products
module _ (a b : Num) (is_a : IsLowest a) (is_b : IsLowest b) where
  some_below : 0 < below a * below b
  some_below = mul-pos (below_positive a is_a) (below_positive b is_b)

  product_gcd : IsGcd (unsigned_abs (a.numerator *ℤ b.numerator)) (below a * below b) (gcd (unsigned_abs (a.numerator *ℤ b.numerator)) (below a * below b))
  product_gcd = gcd_is (unsigned_abs (a.numerator *ℤ b.numerator)) (below a * below b)

  product_lowest : IsLowest (fraction_product a b)
  product_lowest = record {
    positive = positive_int _ (quotient_positive _ _ some_below product_gcd.1);
    lowest = subst (λ w. IsGcd w (below (fraction_product a b)) 1) (sym (abs-divided (a.numerator *ℤ b.numerator) _))
        (quotients_apart _ _ _ (pos_of_dvd_of_pos product_gcd.1 some_below) product_gcd);
  }

  product_alike : Alike (raw (fraction_product a b)) (ratio_times (raw a) (raw b))
  product_alike =
      raw_alike (fraction_product a b) (ratio_times (raw a) (raw b)) (below a * below b) (below_positive (fraction_product a b) product_lowest)
      (two_below a b is_a is_b)
      (cross _ _ _ _ _ _ _ (sym (div-mul_cancel _ product_gcd.1))
      (sym (up-mul a.numerator b.numerator) ∙ up_times (a.numerator *ℤ b.numerator) _ product_gcd.0)
      (sym (down-mul a.numerator b.numerator) ∙ down_times (a.numerator *ℤ b.numerator) _ product_gcd.0))
    where
      cross : (cu cv d e g nu nv : ℕ) → d ≡ e * g → nu ≡ cu * g → nv ≡ cv * g → cu * d + nv * e ≡ nu * e + cv * d
      cross cu cv d e g nu nv p q r = omega (arith, ap (λ w. cu * w) p, ap (λ w. cv * w) p, ap (λ w. w * e) q, ap (λ w. w * e) r)

  product_reads : lowest (raw (fraction_product a b)) ≡ lowest (ratio_times (lowest (raw a)) (lowest (raw b)))
  unfolding fraction_normal
  product_reads = lowest_same_of _ _ product_alike ∙ sym (right-times fraction_normal (raw a) (raw b)) ∙
      sym (fraction_normal.norm-times (raw a) (lowest (raw b)))

-- ---- negatives and inverses
negative_lowest : (a : Num) → IsLowest a → IsLowest (negative_of Rational a)
negative_lowest a is = record {
  positive = is.positive;
  lowest = subst (λ w. IsGcd w (below a) 1) (sym (abs-neg a.numerator)) is.lowest;
}

negative_reads : (a : Num) → lowest (raw (negative_of Rational a)) ≡ lowest (ratio_minus (lowest (raw a)))
unfolding fraction_normal
negative_reads a = ap₂ (λ u v. lowest (u, (v, pred (below a)))) (up-neg a.numerator) (down-neg a.numerator) ∙ sym (fraction_normal.norm-minus (raw a))

inverted_lowest : (n d : ℤ) → is_zero_int n ≡ false → pos 0 <ℤ d → IsGcd (unsigned_abs n) (unsigned_abs d) 1 → IsLowest (inverted n d)
inverted_lowest (pos n) d z p h = record { positive = positive_int n (let k : n ≢ 0 = nonzero_int_is (pos n) z in omega arith); lowest = IsGcd-swap _ _ 1 h }
inverted_lowest (negsuc n) d z p h = record {
  positive = positive_int (suc n) (omega arith);
  lowest =
      subst (λ w. IsGcd w (suc n) 1) (sym (abs-neg d)) (IsGcd-swap _ _ 1 h);
}

-- an inverse times its number, over the product of the denominators
inverted_parts : (n d : ℤ) → pos 0 <ℤ d →
    up_part (inverted n d).numerator * up_part n + down_part (inverted n d).numerator * down_part n
    ≡ unsigned_abs (inverted n d).denominator * unsigned_abs d + (up_part (inverted n d).numerator * down_part n +
    down_part (inverted n d).numerator * up_part n)
inverted_parts (pos n) (pos d) p = omega arith
inverted_parts (pos n) (negsuc d) p = grind arith
inverted_parts (negsuc n) (pos d) p = omega (arith, ap (λ w. w * suc n) (up-neg (pos d)), ap (λ w. w * suc n) (down-neg (pos d)))
inverted_parts (negsuc n) (negsuc d) p = grind arith

inverse_reads : (a : Num) → IsLowest a → is_nought a ≡ false → lowest (ratio_times (lowest (raw (inverse_of Rational a))) (lowest (raw a))) ≡ lowest (1, (0, 0))
unfolding fraction_normal
inverse_reads a is z =
    fraction_normal.norm-times (raw i) (lowest (raw a)) ∙ right-times fraction_normal (raw i) (raw a)
    ∙ lowest_same_of _ _ (alike_by (ratio_times (raw i) (raw a)) (1, (0, 0)) (below i * below a) 1
    (two_below i a (inverted_lowest a.numerator a.denominator z is.positive is.lowest) is) refl
    (whole _ _ _ (inverted_parts a.numerator a.denominator is.positive)))
  where
    i : Num
    i = inverse_of Rational a

    whole : (u v d : ℕ) → u ≡ d + v → u * 1 + 0 * d ≡ 1 * d + v * 1
    whole u v d e = omega arith

-- ---- nought, and numbers with one value
parts_of_nought : (a : Num) → is_nought a ≡ true → (up a ≡ 0) × (down a ≡ 0)
parts_of_nought a z = let e = zero_int_is a.numerator z in (omega (arith, abs_is a.numerator), omega (arith, abs_is a.numerator))

nought_reads : (a : Num) → IsLowest a → is_nought a ≡ true → lowest (raw a) ≡ lowest (0, (0, 0))
nought_reads a is z =
    lowest_same_of _ _ (raw_alike a (0, (0, 0)) 1 (below_positive a is) refl (go (up a) (down a) (below a) (parts_of_nought a z).0 (parts_of_nought a z).1))
  where
    go : (u v d : ℕ) → u ≡ 0 → v ≡ 0 → u * 1 + 0 * d ≡ 0 * d + v * 1
    go u v d p q = omega arith

not_nought_reads : (a : Num) → IsLowest a → is_nought a ≡ false → lowest (raw a) ≢ lowest (0, (0, 0))
not_nought_reads a is z e = nonzero_int_is a.numerator z (abs_is a.numerator ∙ go (up a) (down a) (pred (below a) + 1) (one_part a.numerator)
    (alike_of_lowest (raw a) (0, (0, 0)) e))
  where
    go : (u v d : ℕ) → (u ≡ 0) ⊎ (v ≡ 0) → u * (0 + 1) + 0 * d ≡ 0 * d + v * (0 + 1) → u + v ≡ 0
    go u v d (inl p) h = omega arith
    go u v d (inr p) h = omega arith

-- the magnitudes of what is alike
sizes_cross : (u v d u' v' d' : ℕ) → (u ≡ 0) ⊎ (v ≡ 0) → (u' ≡ 0) ⊎ (v' ≡ 0) → u * d' + v' * d ≡ u' * d + v * d' → (u + v) * d' ≡ (u' + v') * d
sizes_cross u v d u' v' d' (inl p) (inl q) h = omega (arith, h, ap (λ w. w * d') p, ap (λ w. w * d) q)
sizes_cross u v d u' v' d' (inl p) (inr q) h = omega (arith, h, ap (λ w. w * d') p, ap (λ w. w * d) q)
sizes_cross u v d u' v' d' (inr p) (inl q) h = omega (arith, h, ap (λ w. w * d') p, ap (λ w. w * d) q)
sizes_cross u v d u' v' d' (inr p) (inr q) h = omega (arith, h, ap (λ w. w * d') p, ap (λ w. w * d) q)

same_reads : (a b : Num) → IsLowest a → IsLowest b → lowest (raw a) ≡ lowest (raw b) → a ≡ b
same_reads a b is_a is_b e = num_same numerators (positive_is a.denominator is_a.positive ∙ ap pos equal.1 ∙ sym (positive_is b.denominator is_b.positive))
  where
    num_same : {n n' d d' : ℤ} → n ≡ n' → d ≡ d' → Path Num (record { numerator = n; denominator = d }) (record { numerator = n'; denominator = d' })
    num_same p q i = record { numerator = p i; denominator = q i }

    crossed : up a * below b + down b * below a ≡ up b * below a + down a * below b
    crossed =
        subst₂ (λ x y. up a * y + down b * x ≡ up b * x + down a * y) (suc_pred (below a) (below_positive a is_a)) (suc_pred (below b) (below_positive b is_b))
        (alike_of_lowest (raw a) (raw b) e)

    sizes : size a * below b ≡ size b * below a
    sizes = ap (λ w. w * below b) (abs_is a.numerator) ∙ sizes_cross (up a) (down a) (below a) (up b) (down b) (below b) (one_part a.numerator)
        (one_part b.numerator) crossed ∙ ap (λ w. w * below a) (sym (abs_is b.numerator))

    equal : (size a ≡ size b) × (below a ≡ below b)
    equal = lowest_equal (size a) (below a) (size b) (below b) (below_positive b is_b) is_a.lowest is_b.lowest sizes

    numerators : a.numerator ≡ b.numerator
    numerators = int_same a.numerator b.numerator (eq_of_mul-eq-mul_right (below a) (below_positive a is_a) _ _
        (go (up a) (down a) (below a) (up b) (down b) (below b) (sym equal.1) crossed))
      where
        go : (u v d u' v' d' : ℕ) → d' ≡ d → u * d' + v' * d ≡ u' * d + v * d' → (u + v') * d ≡ (u' + v) * d
        go u v d u' v' d' p h = omega (arith, h, ap (λ w. u * w) p, ap (λ w. v * w) p)

-- ---- the field of fractions
pub fraction_reads : ReadsExactly Rational (field_of Rational) (number_of Rational)
unfolding number_of field_of field_of_normal fraction_normal
fraction_reads = record {
  zero_is = λ a is z. number_same fraction_normal _ _ (nought_reads a is z);
  nonzero = λ a is z e. not_nought_reads a is z (ap (λ n. n.0) e);
  apart = λ a b is_a is_b e. same_reads a b is_a is_b (ap (λ n. n.0) e);
  sum = λ a b is_a is_b. (sum_lowest a b is_a is_b, number_same fraction_normal _ _ (sum_reads a b is_a is_b));
  product = λ a b is_a is_b. (product_lowest a b is_a is_b, number_same fraction_normal _ _ (product_reads a b is_a is_b));
  negative = λ a is. (negative_lowest a is, number_same fraction_normal _ _ (negative_reads a));
  inverse = λ a is z. (
    inverted_lowest a.numerator a.denominator z is.positive is.lowest,
    inverse_same (field_of_normal fraction_normal) (number_of Rational (inverse_of Rational a)) (number_of Rational a)
        (λ e. not_nought_reads a is z (ap (λ n. n.0) e)) (number_same fraction_normal _ _ (inverse_reads a is z)),
  );
}
