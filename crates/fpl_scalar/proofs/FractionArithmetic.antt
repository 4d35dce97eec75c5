-- The parts of a sum of fractions, as the code forms them one by one.
use Rattle.std.specs.Prelude.{ℕ, ◌≡◌, ◌≤◌, ◌*◌, ◌/◌, ℤ, pos, ◌+ℤ◌, ◌*ℤ◌, unsigned_abs, true, ◌&&◌, nat_le, Option, Some, None, if◌then◌else◌}
use Rattle.std.specs.Int.{w128}
use Rattle.std.proofs.Common.{to_z, of_z}
use mathlib.Core.Path.{sym, ap, ap₂, ◌∙◌, subst}
use native.Mathlib.Omega.{arith}
use native.Mathlib.Nat.{div-le_self}
use Rattle.fpl_numbers.specs.declared.number.Num.{Num}
use Rattle.fpl_numbers.specs.declared.number.Kind.TheVariants.{Rational}
use Rattle.fpl_numbers.specs.declared.number.Op.TheVariants.{Add, Mul}
use Rattle.math_fields.specs.Gcd.{gcd}
use Rattle.fpl_numbers.specs.Numbers.{IsElement, most_number, is_within, divided, common, left_part, right_part, both_parts, shared, sum_below, fraction_fits, fraction_sum, fraction_product}
use Rattle.fpl_numbers.proofs.FractionProducts.{left_gcd, right_gcd, cancelled_above, cancelled_below, product_cancelled}
use Rattle.fpl_numbers.proofs.Integers.{abs-divided}
use Rattle.fpl_scalar.proofs.Choices.{back, choose, choose_none, chosen, unchosen, false_left, false_right, true_both, within_is}

abbrev pub wrapped : ℤ → ℤ
wrapped z = to_z w128 (of_z w128 z)

pub num_same : {n n' d d' : ℤ} → n ≡ n' → d ≡ d' → Path Num (record { numerator = n; denominator = d }) (record { numerator = n'; denominator = d' })
num_same p q i = record { numerator = p i; denominator = q i }

module _ (a b : Num) (is_a : IsElement Rational a) (is_b : IsElement Rational b) (da db g : ℕ) (da_is : da ≡ unsigned_abs a.denominator)
    (db_is : db ≡ unsigned_abs b.denominator) (g_is : g ≡ gcd da db) where
  common_is : g ≡ common a b
  common_is = g_is ∙ ap₂ gcd da_is db_is

  pub left_formed : (l : ℤ) → Some l ≡ (if is_within (wrapped a.numerator *ℤ pos (db / g)) then Some (wrapped a.numerator *ℤ pos (db / g)) else None) →
      (is_within (left_part a b) ≡ true) × (l ≡ left_part a b)
  left_formed l e =
      chosen (is_within (left_part a b)) (left_part a b) l
      (subst (λ w. Some l ≡ (if is_within w then Some w else None)) (ap₂ (λ n d. n *ℤ pos d) (back a.numerator is_a.1.0)
      (ap₂ (λ x y. x / y) db_is common_is)) e)

  pub right_formed : (r : ℤ) → Some r ≡ (if is_within (wrapped b.numerator *ℤ pos (da / g)) then Some (wrapped b.numerator *ℤ pos (da / g)) else None) →
      (is_within (right_part a b) ≡ true) × (r ≡ right_part a b)
  right_formed r e =
      chosen (is_within (right_part a b)) (right_part a b) r
      (subst (λ w. Some r ≡ (if is_within w then Some w else None)) (ap₂ (λ n d. n *ℤ pos d) (back b.numerator is_b.1.0)
      (ap₂ (λ x y. x / y) da_is common_is)) e)

  unwrapped : (z : ℤ) → is_within z ≡ true → wrapped z ≡ z
  unwrapped z h = back z (within_is (unsigned_abs z) h)

  both_is : (l r : ℤ) → (is_within (left_part a b) ≡ true) × (l ≡ left_part a b) → (is_within (right_part a b) ≡ true) × (r ≡ right_part a b) →
      wrapped l +ℤ wrapped r ≡ both_parts a b
  both_is l r h k = ap₂ (λ x y. x +ℤ y) (ap wrapped h.1 ∙ unwrapped (left_part a b) h.0) (ap wrapped k.1 ∙ unwrapped (right_part a b) k.0)

  pub both_formed : (l r t : ℤ) → (is_within (left_part a b) ≡ true) × (l ≡ left_part a b) → (is_within (right_part a b) ≡ true) × (r ≡ right_part a b) →
      Some t ≡ (if is_within (wrapped l +ℤ wrapped r) then Some (wrapped l +ℤ wrapped r) else None) → (is_within (both_parts a b) ≡ true) × (t ≡ both_parts a b)
  both_formed l r t h k e =
      chosen (is_within (both_parts a b)) (both_parts a b) t (subst (λ w. Some t ≡ (if is_within w then Some w else None)) (both_is l r h k) e)

  pub both_unfit : (l r : ℤ) → (is_within (left_part a b) ≡ true) × (l ≡ left_part a b) → (is_within (right_part a b) ≡ true) × (r ≡ right_part a b) →
      ◌≡◌ {A = Option ℤ} None (if is_within (wrapped l +ℤ wrapped r) then Some (wrapped l +ℤ wrapped r) else None) →
      ◌≡◌ {A = Option Num} None (if fraction_fits Add a b then Some (fraction_sum a b) else None)
  both_unfit l r h k e =
      choose_none _ (fraction_sum a b)
      (false_left _ (nat_le (sum_below a b) most_number)
      (false_right (is_within (left_part a b) && is_within (right_part a b)) _
      (unchosen (is_within (both_parts a b)) (both_parts a b) (subst (λ w. ◌≡◌ {A = Option ℤ} None (if is_within w then Some w else None))
      (both_is l r h k) e))))

  module _ (t : ℤ) (t_is : (is_within (both_parts a b) ≡ true) × (t ≡ both_parts a b)) (m h : ℕ) (m_is : m ≡ unsigned_abs (wrapped t))
      (h_is : h ≡ gcd m g) where
    total_is : wrapped t ≡ both_parts a b
    total_is = ap wrapped t_is.1 ∙ unwrapped (both_parts a b) t_is.0

    shared_is : h ≡ shared a b
    shared_is = h_is ∙ ap₂ gcd (m_is ∙ ap unsigned_abs total_is) common_is

    below_is : (da / g) * (db / h) ≡ sum_below a b
    below_is = ap₂ (λ x y. x * y) (ap₂ (λ x y. x / y) da_is common_is) (ap₂ (λ x y. x / y) db_is shared_is)

    pub below_unfit : ◌≡◌ {A = Option ℤ} None (if nat_le ((da / g) * (db / h)) most_number then Some (pos ((da / g) * (db / h))) else None) →
        ◌≡◌ {A = Option Num} None (if fraction_fits Add a b then Some (fraction_sum a b) else None)
    below_unfit e =
        choose_none _ (fraction_sum a b)
        (false_right _ (nat_le (sum_below a b) most_number)
        (unchosen (nat_le (sum_below a b) most_number) (pos (sum_below a b))
        (subst (λ w. ◌≡◌ {A = Option ℤ} None (if nat_le w most_number then Some (pos w) else None)) below_is e)))

    pub sum_formed : (l r n d : ℤ) → (is_within (left_part a b) ≡ true) × (l ≡ left_part a b) → (is_within (right_part a b) ≡ true) × (r ≡ right_part a b) →
        n ≡ divided (wrapped t) h → Some d ≡ (if nat_le ((da / g) * (db / h)) most_number then Some (pos ((da / g) * (db / h))) else None) →
        ◌≡◌ {A = Option Num} (Some (record { numerator = wrapped n; denominator = wrapped d }))
        (if fraction_fits Add a b then Some (fraction_sum a b) else None)
    sum_formed l r n d lf rf n_is e =
        choose _ (fraction_sum a b) (record { numerator = wrapped n; denominator = wrapped d })
        (true_both _ (nat_le (sum_below a b) most_number) (true_both _ (is_within (both_parts a b)) (true_both _ _ lf.0 rf.0) t_is.0) d_is.0)
        (num_same
        (ap wrapped n_same ∙ back (divided (both_parts a b) (shared a b)) small)
        (ap wrapped d_is.1 ∙ back (pos (sum_below a b)) (within_is (sum_below a b) d_is.0)))
      where
        d_is : (nat_le (sum_below a b) most_number ≡ true) × (d ≡ pos (sum_below a b))
        d_is = chosen (nat_le (sum_below a b) most_number) (pos (sum_below a b)) d
            (subst (λ w. Some d ≡ (if nat_le w most_number then Some (pos w) else None)) below_is e)

        n_same : n ≡ divided (both_parts a b) (shared a b)
        n_same = n_is ∙ ap₂ divided total_is shared_is

        small : unsigned_abs (divided (both_parts a b) (shared a b)) ≤ most_number
        small =
            let q : unsigned_abs (both_parts a b) / shared a b ≤ unsigned_abs (both_parts a b) = div-le_self _ _ in
            let m : unsigned_abs (both_parts a b) ≤ most_number = within_is _ t_is.0 in
            subst (λ w. w ≤ most_number) (sym (abs-divided (both_parts a b) (shared a b))) (omega arith)

-- ---- a product
module _ (a b : Num) (is_a : IsElement Rational a) (is_b : IsElement Rational b) (da db : ℕ) (da_is : da ≡ unsigned_abs a.denominator)
    (db_is : db ≡ unsigned_abs b.denominator)
    (ma mb l r : ℕ) (ma_is : ma ≡ unsigned_abs (wrapped a.numerator)) (mb_is : mb ≡ unsigned_abs (wrapped b.numerator)) (l_is : l ≡ gcd ma db)
    (r_is : r ≡ gcd mb da) where
  left_is : l ≡ left_gcd a b is_a.0 is_b.0
  left_is = l_is ∙ ap₂ gcd (ma_is ∙ ap unsigned_abs (back a.numerator is_a.1.0)) db_is

  right_is : r ≡ right_gcd a b is_a.0 is_b.0
  right_is = r_is ∙ ap₂ gcd (mb_is ∙ ap unsigned_abs (back b.numerator is_b.1.0)) da_is

  -- the parts of the product, for any test and any answer
  small_part : (z : ℤ) (d : ℕ) → unsigned_abs z ≤ most_number → unsigned_abs (divided z d) ≤ most_number
  small_part z d h =
      let q : unsigned_abs z / d ≤ unsigned_abs z = div-le_self _ _ in
      subst (λ w. w ≤ most_number) (sym (abs-divided z d)) (omega arith)

  module _ (n m : ℤ) (n_is : n ≡ divided (wrapped a.numerator) l) (m_is : m ≡ divided (wrapped b.numerator) r) where
    above_is : wrapped n *ℤ wrapped m ≡ cancelled_above a b is_a.0 is_b.0
    above_is =
        ap₂ (λ x y. x *ℤ y)
        (ap wrapped (n_is ∙ ap₂ divided (back a.numerator is_a.1.0) left_is) ∙ back (divided a.numerator (left_gcd a b is_a.0 is_b.0))
        (small_part a.numerator (left_gcd a b is_a.0 is_b.0) is_a.1.0))
        (ap wrapped (m_is ∙ ap₂ divided (back b.numerator is_b.1.0) right_is) ∙ back (divided b.numerator (right_gcd a b is_a.0 is_b.0))
        (small_part b.numerator (right_gcd a b is_a.0 is_b.0) is_b.1.0))

    product_below_is : (da / r) * (db / l) ≡ cancelled_below a b is_a.0 is_b.0
    product_below_is = ap₂ (λ x y. x * y) (ap₂ (λ x y. x / y) da_is right_is) (ap₂ (λ x y. x / y) db_is left_is)

    pub above_unfit : ◌≡◌ {A = Option ℤ} None (if is_within (wrapped n *ℤ wrapped m) then Some (wrapped n *ℤ wrapped m) else None) →
        ◌≡◌ {A = Option Num} None (if fraction_fits Mul a b then Some (fraction_product a b) else None)
    above_unfit e =
        choose_none _ (fraction_product a b)
        (false_left _ (is_within (fraction_product a b).denominator)
        (ap (λ w. is_within w.numerator) (product_cancelled a b is_a.0 is_b.0)
        ∙ unchosen (is_within (cancelled_above a b is_a.0 is_b.0)) (cancelled_above a b is_a.0 is_b.0)
        (subst (λ w. ◌≡◌ {A = Option ℤ} None (if is_within w then Some w else None)) above_is e)))

    pub product_below_unfit : ◌≡◌ {A = Option ℤ} None (if nat_le ((da / r) * (db / l)) most_number then Some (pos ((da / r) * (db / l))) else None) →
        ◌≡◌ {A = Option Num} None (if fraction_fits Mul a b then Some (fraction_product a b) else None)
    product_below_unfit e =
        choose_none _ (fraction_product a b)
        (false_right (is_within (fraction_product a b).numerator) _
        (ap (λ w. is_within w.denominator) (product_cancelled a b is_a.0 is_b.0)
        ∙ unchosen (nat_le (cancelled_below a b is_a.0 is_b.0) most_number) (pos (cancelled_below a b is_a.0 is_b.0))
        (subst (λ w. ◌≡◌ {A = Option ℤ} None (if nat_le w most_number then Some (pos w) else None)) product_below_is e)))

    pub product_formed : (x d : ℤ) → Some x ≡ (if is_within (wrapped n *ℤ wrapped m) then Some (wrapped n *ℤ wrapped m) else None) →
        Some d ≡ (if nat_le ((da / r) * (db / l)) most_number then Some (pos ((da / r) * (db / l))) else None) →
        ◌≡◌ {A = Option Num} (Some (record { numerator = wrapped x; denominator = wrapped d }))
        (if fraction_fits Mul a b then Some (fraction_product a b) else None)
    product_formed x d e f =
        choose _ (fraction_product a b) (record { numerator = wrapped x; denominator = wrapped d })
        (true_both _ _ (ap (λ w. is_within w.numerator) (product_cancelled a b is_a.0 is_b.0) ∙ x_is.0)
        (ap (λ w. is_within w.denominator) (product_cancelled a b is_a.0 is_b.0) ∙ d_is.0))
        (num_same (ap wrapped x_is.1 ∙ back _ (within_is _ x_is.0)) (ap wrapped d_is.1 ∙ back (pos (cancelled_below a b is_a.0 is_b.0))
        (within_is _ d_is.0)) ∙ sym (product_cancelled a b is_a.0 is_b.0))
      where
        x_is : (is_within (cancelled_above a b is_a.0 is_b.0) ≡ true) × (x ≡ cancelled_above a b is_a.0 is_b.0)
        x_is = chosen _ (cancelled_above a b is_a.0 is_b.0) x (subst (λ w. Some x ≡ (if is_within w then Some w else None)) above_is e)

        d_is : (nat_le (cancelled_below a b is_a.0 is_b.0) most_number ≡ true) × (d ≡ pos (cancelled_below a b is_a.0 is_b.0))
        d_is = chosen _ (pos (cancelled_below a b is_a.0 is_b.0)) d
            (subst (λ w. Some d ≡ (if nat_le w most_number then Some (pos w) else None)) product_below_is f)
