-- Coboundaries are linear in the form, and read it on the basis alone.
use Rattle.std.specs.Prelude.{ℕ, zero, suc, ◌≡◌, ◌≢◌, ◌<◌, length}
use mathlib.Core.Path.{sym, refl, ap, ap₂, ◌∙◌}
use native.Mathlib.Omega.{arith}
use native.Mathlib.Decide.{ℕ_discrete}
use Rattle.math_fields.specs.Field.{Field}
use Rattle.math_linear.specs.Vector.{place}
use Rattle.math_linear.specs.Kernel.{product_sum}
use Rattle.math_algebra.specs.Table.{Table, product}
use Rattle.math_linear.proofs.Numbers.{nought-plus, plus_left_comm, times-nought, nought-times, unit-times, plus_times, times_left_comm}
use Rattle.math_linear.proofs.Vectors.{place_same, place_other}
use Rattle.math_linear.proofs.Kernel.{product_one}
use Rattle.math_cohomology.specs.Forms.{One, Two, apply, coboundary1, coboundary2, Agree1, Agree2, sum1, sum2}
use Rattle.math_cohomology.proofs.Functionals.{product_below}

module _ (K : Field) where
  pub regroup : (a b c d : K.Carrier) → K.plus (K.plus a b) (K.plus c d) ≡ K.plus (K.plus a c) (K.plus b d)
  regroup a b c d = K.plus_assoc a b _ ∙ ap (K.plus a) (plus_left_comm K b c d) ∙ sym (K.plus_assoc a c _)

  pub plus-product : (n : ℕ) (u v x : ℕ → K.Carrier) → product_sum K n (λ i. K.plus (u i) (v i)) x ≡ K.plus (product_sum K n u x) (product_sum K n v x)
  unfolding product_sum
  plus-product zero u v x = sym (K.plus-nought _)
  plus-product (suc n) u v x = ap₂ K.plus (plus-product n u v x) (plus_times K (u n) (v n) (x n)) ∙ regroup _ _ _ _

  pub scale-product : (n : ℕ) (c : K.Carrier) (u x : ℕ → K.Carrier) → product_sum K n (λ i. K.times c (u i)) x ≡ K.times c (product_sum K n u x)
  unfolding product_sum
  scale-product zero c u x = sym (times-nought K c)
  scale-product (suc n) c u x = ap₂ K.plus (scale-product n c u x) (K.times_assoc c (u n) (x n)) ∙ sym (K.times-plus c _ _)

  pub none-product : (n : ℕ) (x : ℕ → K.Carrier) → product_sum K n (λ i. K.nought) x ≡ K.nought
  unfolding product_sum
  none-product zero x = refl
  none-product (suc n) x = ap₂ K.plus (none-product n x) (nought-times K _) ∙ K.plus-nought _

  module _ (T : Table K) where
    -- the same on the basis
    pub coboundary1_same : (f g : One K) → Agree1 K T f g → (i j : ℕ) → coboundary1 K T f i j ≡ coboundary1 K T g i j
    unfolding coboundary1 apply
    coboundary1_same f g h i j = product_below K (length T.basis) f g (product K T i j) h

    pub coboundary2_same : (f g : Two K) → Agree2 K T f g → (i j k : ℕ) → i < length T.basis → j < length T.basis → k < length T.basis →
        coboundary2 K T f i j k ≡ coboundary2 K T g i j k
    unfolding coboundary2 apply
    coboundary2_same f g h i j k l m o =
        ap₂ K.plus (product_below K (length T.basis) (λ t. f t k) (λ t. g t k) (product K T i j) (λ t p. h t k p o))
        (ap₂ K.plus (ap (K.times _) (product_below K (length T.basis) (λ t. f t j) (λ t. g t j) (product K T i k) (λ t p. h t j p m)))
        (ap (K.times _) (product_below K (length T.basis) (λ t. f t i) (λ t. g t i) (product K T j k) (λ t p. h t i p l))))

    pub coboundary1_plus : (f g : One K) (i j : ℕ) → coboundary1 K T (λ i. K.plus (f i) (g i)) i j ≡ K.plus (coboundary1 K T f i j) (coboundary1 K T g i j)
    unfolding coboundary1 apply
    coboundary1_plus f g i j = plus-product (length T.basis) f g (product K T i j)

    pub coboundary1_scale : (c : K.Carrier) (f : One K) (i j : ℕ) → coboundary1 K T (λ i. K.times c (f i)) i j ≡ K.times c (coboundary1 K T f i j)
    unfolding coboundary1 apply
    coboundary1_scale c f i j = scale-product (length T.basis) c f (product K T i j)

    pub coboundary1_none : (i j : ℕ) → coboundary1 K T (λ i. K.nought) i j ≡ K.nought
    unfolding coboundary1 apply
    coboundary1_none i j = none-product (length T.basis) (product K T i j)

    pub coboundary1_place : (e : ℕ) → e < length T.basis → (i j : ℕ) → coboundary1 K T (place K e) i j ≡ product K T i j e
    unfolding coboundary1 apply
    coboundary1_place e l i j =
        product_one K (length T.basis) e (place K e) (product K T i j) l
        (λ t m d. ap (λ w. K.times w (product K T i j t)) (place_other K e t (λ a. d (sym a))) ∙ nought-times K _)
        ∙ ap (λ w. K.times w (product K T i j e)) (place_same K e) ∙ unit-times K _

    pub coboundary1_sum : (n : ℕ) (c : ℕ → K.Carrier) (f : ℕ → One K) (i j : ℕ) →
        coboundary1 K T (sum1 K n c f) i j ≡ sum2 K n c (λ e. coboundary1 K T (f e)) i j
    unfolding sum1 sum2
    coboundary1_sum zero c f i j = coboundary1_none i j
    coboundary1_sum (suc n) c f i j =
        coboundary1_plus (sum1 K n c f) (λ i. K.times (c n) (f n i)) i j ∙ ap₂ K.plus (coboundary1_sum n c f i j) (coboundary1_scale (c n) (f n) i j)

    pub coboundary2_plus : (f g : Two K) (i j k : ℕ) →
        coboundary2 K T (λ i j. K.plus (f i j) (g i j)) i j k ≡ K.plus (coboundary2 K T f i j k) (coboundary2 K T g i j k)
    unfolding coboundary2 apply
    coboundary2_plus f g i j k =
        ap₂ K.plus (plus-product (length T.basis) (λ t. f t k) (λ t. g t k) (product K T i j))
        (ap₂ K.plus (ap (K.times _) (plus-product (length T.basis) (λ t. f t j) (λ t. g t j) (product K T i k)) ∙ K.times-plus _ _ _)
        (ap (K.times _) (plus-product (length T.basis) (λ t. f t i) (λ t. g t i) (product K T j k)) ∙ K.times-plus _ _ _)
        ∙ regroup _ _ _ _)
        ∙ regroup _ _ _ _

    pub coboundary2_scale : (c : K.Carrier) (f : Two K) (i j k : ℕ) → coboundary2 K T (λ i j. K.times c (f i j)) i j k ≡ K.times c (coboundary2 K T f i j k)
    unfolding coboundary2 apply
    coboundary2_scale c f i j k =
        ap₂ K.plus (scale-product (length T.basis) c (λ t. f t k) (product K T i j))
        (ap₂ K.plus (ap (K.times _) (scale-product (length T.basis) c (λ t. f t j) (product K T i k)) ∙ times_left_comm K _ _ _)
        (ap (K.times _) (scale-product (length T.basis) c (λ t. f t i) (product K T j k)) ∙ times_left_comm K _ _ _)
        ∙ sym (K.times-plus c _ _))
        ∙ sym (K.times-plus c _ _)

    pub coboundary2_none : (i j k : ℕ) → coboundary2 K T (λ i j. K.nought) i j k ≡ K.nought
    unfolding coboundary2 apply
    coboundary2_none i j k =
        ap₂ K.plus (none-product (length T.basis) (product K T i j))
        (ap₂ K.plus (ap (K.times _) (none-product (length T.basis) (product K T i k)) ∙ times-nought K _)
        (ap (K.times _) (none-product (length T.basis) (product K T j k)) ∙ times-nought K _)
        ∙ K.plus-nought _)
        ∙ K.plus-nought _

  -- sums at a place
  pub sum1_none : (n : ℕ) (c : ℕ → K.Carrier) (f : ℕ → One K) (i : ℕ) → ((e : ℕ) → e < n → f e i ≡ K.nought) → sum1 K n c f i ≡ K.nought
  unfolding sum1
  sum1_none zero c f i h = refl
  sum1_none (suc n) c f i h =
      ap₂ K.plus (sum1_none n c f i (λ e l. h e (omega arith))) (ap (K.times (c n)) (h n (omega arith)) ∙ times-nought K _) ∙ K.plus-nought _

  pub sum1_only : (n e : ℕ) (c : ℕ → K.Carrier) (f : ℕ → One K) (i : ℕ) → e < n → ((d : ℕ) → d < n → d ≢ e → f d i ≡ K.nought) →
      sum1 K n c f i ≡ K.times (c e) (f e i)
  unfolding sum1
  sum1_only zero e c f i l h = absurd (omega arith)
  sum1_only (suc n) e c f i l h = go (ℕ_discrete e n) (λ k. sum1_only n e c f i k (λ d m. h d (omega arith)))
    where
      go : Dec (e ≡ n) → (e < n → sum1 K n c f i ≡ K.times (c e) (f e i)) → K.plus (sum1 K n c f i) (K.times (c n) (f n i)) ≡ K.times (c e) (f e i)
      go (yes a) k =
          ap (λ w. K.plus w (K.times (c n) (f n i))) (sum1_none n c f i (λ d m. h d (omega arith) (omega arith))) ∙ nought-plus K _ ∙ ap
          (λ d. K.times (c d) (f d i)) (sym a)
      go (no a) k = ap₂ K.plus (k (omega arith)) (ap (K.times (c n)) (h n (omega arith) (λ b. a (sym b))) ∙ times-nought K _) ∙ K.plus-nought _
