-- Jacobi in the next table: below its weight from the table before, at its weight from the source rows, and past it since all is 0.
use Rattle.std.specs.Prelude.{ℕ, suc, ◌≡◌, ◌<◌, ◌≤◌, ◌+◌, length}
use mathlib.Core.Path.{sym, refl, ap, ap₂, ◌∙◌, subst}
use mathlib.Core.Logic.{inl, inr}
use native.Mathlib.Omega.{arith}
use native.Mathlib.Decide.{ℕ_discrete, dec_le, dec_lt}
use Rattle.math_fields.specs.Field.{Field}
use Rattle.math_linear.specs.Vector.{Vector, vzero, vplus, scale, place}
use Rattle.math_algebra.specs.Tree.{Parity, even, odd}
use Rattle.math_algebra.specs.Derives.{sign}
use Rattle.math_algebra.specs.Table.{basis_at, IsRegular, Table, signed, product, parity_at, bracket, HasJacobi, with_itself, weight_at, IsOf}
use Rattle.math_algebra.specs.SourceRows.{outer_place, outer, jacobi_row}
use Rattle.math_linear.proofs.Vectors.{scale-vzero, vplus-vzero}
use Rattle.math_linear.specs.Linear.{IsLinear}
use Rattle.math_linear.proofs.Linear.{linear_vzero, bilinear_left, bilinear_right, bilinear_places, zero_linear, linear_after}
use Rattle.math_values.proofs.Products.{bracket_places, bracket_linear_left, bracket_linear_right}
use Rattle.math_linear.proofs.Span.{apart_zero}
use Rattle.math_linear.proofs.Places.{bilinear_agree, place_stands}
use Rattle.math_values.proofs.Parts.{product_past}

-- a table and one with a weight more, whose new entries are told by a linear function from vectors over the new weight's symbols
pub record Extends (K : Field) (T T' : Table K) (number : ℕ → ℕ → ℕ) (meaning : Vector K → Vector K) : Type 0 where
  pub weight : T'.weight ≡ suc T.weight
  pub more : length T.basis ≤ length T'.basis
  pub old : (i : ℕ) → i < length T.basis → basis_at T' i ≡ basis_at T i
  pub fresh : (i : ℕ) → length T.basis ≤ i → i < length T'.basis → weight_at T' i ≡ suc T.weight
  pub positive : (i : ℕ) → i < length T'.basis → 0 < weight_at T' i
  pub kept : (i j : ℕ) → i < length T.basis → j < length T.basis → IsRegular T i j → weight_at T i + weight_at T j ≤ T.weight → T'.entry i j ≡ T.entry i j
  pub filled : (i j : ℕ) → i < length T.basis → j < length T.basis → IsRegular T i j → weight_at T i + weight_at T j ≡ suc T.weight →
      T'.entry i j ≡ meaning (place K (number i j))

module _ (K : Field) (parity : ℕ → Parity) (entry : ℕ → ℕ → Vector K) where
  pub signed_below : (i j : ℕ) → i < j → signed K parity entry i j ≡ entry i j
  unfolding signed
  signed_below i j l = grind arith

  pub signed_above : (i j : ℕ) → j < i → signed K parity entry i j ≡ scale K (K.minus (sign K (parity i) (parity j))) (entry j i)
  unfolding signed
  signed_above i j l = grind arith

  pub signed_itself : (i : ℕ) → signed K parity entry i i ≡ with_itself K (parity i) (entry i i)
  unfolding signed
  signed_itself i = grind arith

-- a linear function goes through signs, and signs go by the parities of the pair
signed_linear : (K : Field) (parity parity' : ℕ → Parity) (f : Vector K → Vector K) → IsLinear K f → (entry entry' : ℕ → ℕ → Vector K) (i j : ℕ) →
    parity' i ≡ parity i → parity' j ≡ parity j → (i < j → entry' i j ≡ f (entry i j)) → (j < i → entry' j i ≡ f (entry j i)) →
    (i ≡ j → parity i ≡ odd → entry' i i ≡ f (entry i i)) →
    signed K parity' entry' i j ≡ f (signed K parity entry i j)
signed_linear K parity parity' f h entry entry' i j p q a b c = go (dec_lt i j) (dec_lt j i)
  where
    at_itself : (s : Parity) (v v' : Vector K) → (s ≡ odd → v' ≡ f v) → with_itself K s v' ≡ f (with_itself K s v)
    at_itself even v v' e = sym (linear_vzero K f h)
    at_itself odd v v' e = e refl

    go : Dec (i < j) → Dec (j < i) → signed K parity' entry' i j ≡ f (signed K parity entry i j)
    go (yes l) d = signed_below K parity' entry' i j l ∙ a l ∙ ap f (sym (signed_below K parity entry i j l))
    go (no l) (yes d) =
        signed_above K parity' entry' i j d ∙ ap₂ (λ s t. scale K (K.minus (sign K s t)) (entry' j i)) p q ∙ ap (scale K _) (b d) ∙ sym (h.of_scale _ _)
        ∙ ap f (sym (signed_above K parity entry i j d))
    go (no l) (no d) =
        let e : i ≡ j = omega arith in
        subst (λ w. signed K parity' entry' i w ≡ f (signed K parity entry i w)) e
        (signed_itself K parity' entry' i ∙ ap (λ s. with_itself K s (entry' i i)) p ∙ at_itself (parity i) (entry i i) (entry' i i) (c e) ∙
        ap f (sym (signed_itself K parity entry i)))

product_within : (K : Field) (T : Table K) (i j : ℕ) → weight_at T i + weight_at T j ≤ T.weight → product K T i j ≡ signed K (parity_at T) T.entry i j
unfolding product
product_within K T i j h = grind arith

pub outer_within : (K : Field) (T : Table K) (number : ℕ → ℕ → ℕ) (i j : ℕ) → weight_at T i + weight_at T j ≡ suc T.weight →
    outer_place K T number i j ≡ signed K (parity_at T) (λ i j. place K (number i j)) i j
unfolding outer_place
outer_within K T number i j h = grind arith

module _ (K : Field) (T T' : Table K) (number : ℕ → ℕ → ℕ) (meaning : Vector K → Vector K) (linear : IsLinear K meaning)
    (step : Extends K T T' number meaning) where
  weight_old : (i : ℕ) → i < length T.basis → weight_at T' i ≡ weight_at T i
  weight_old i l = ap (λ b. b.weight) (step.old i l)

  parity_old : (i : ℕ) → i < length T.basis → parity_at T' i ≡ parity_at T i
  parity_old i l = ap (λ b. b.parity) (step.old i l)

  pub product_kept : (i j : ℕ) → i < length T.basis → j < length T.basis → weight_at T i + weight_at T j ≤ T.weight → product K T' i j ≡ product K T i j
  product_kept i j l k h =
      product_within K T' i j (omega (arith, weight_old i l, weight_old j k, step.weight))
      ∙ signed_linear K (parity_at T) (parity_at T') (λ v. v) (record { of_plus = λ u v. refl; of_scale = λ c u. refl }) T.entry T'.entry i j
      (parity_old i l) (parity_old j k)
      (λ m. step.kept i j l k (inl m) h) (λ m. step.kept j i k l (inl m) (omega arith)) (λ e o. step.kept i i l l (inr (refl, o))
      (subst (λ w. weight_at T i + weight_at T w ≤ T.weight) (sym e) h))
      ∙ sym (product_within K T i j h)

  pub product_filled : (i j : ℕ) → i < length T.basis → j < length T.basis → weight_at T i + weight_at T j ≡ suc T.weight →
      product K T' i j ≡ meaning (outer_place K T number i j)
  product_filled i j l k h =
      product_within K T' i j (omega (arith, weight_old i l, weight_old j k, step.weight))
      ∙ signed_linear K (parity_at T) (parity_at T') meaning linear (λ i j. place K (number i j)) T'.entry i j (parity_old i l) (parity_old j k)
      (λ m. step.filled i j l k (inl m) h) (λ m. step.filled j i k l (inl m) (omega arith))
      (λ e o. step.filled i i l l (inr (refl, o)) (subst (λ w. weight_at T i + weight_at T w ≡ suc T.weight) (sym e) h))
      ∙ ap meaning (sym (outer_within K T number i j h))

  pub bracket_kept : (b c : ℕ) → b + c ≤ T.weight → (x y : Vector K) → IsOf K T b x → IsOf K T c y → bracket K T' x y ≡ bracket K T x y
  bracket_kept b c m =
      bilinear_agree K (length T.basis) (λ i. weight_at T i ≡ b) (λ i. weight_at T i ≡ c) (bracket K T') (bracket K T)
      (bracket_linear_left K T') (bracket_linear_right K T') (bracket_linear_left K T) (bracket_linear_right K T)
      (λ i j l k p q.
      bracket_places K T' i j (omega (arith, step.more)) (omega (arith, step.more)) ∙ product_kept i j l k (omega arith) ∙ sym (bracket_places K T i j l k))

  pub bracket_filled : (b c : ℕ) → b + c ≡ suc T.weight → (x y : Vector K) → IsOf K T b x → IsOf K T c y → bracket K T' x y ≡ meaning (outer K T number x y)
  bracket_filled b c m =
      bilinear_agree K (length T.basis) (λ i. weight_at T i ≡ b) (λ i. weight_at T i ≡ c) (bracket K T') (λ x y. meaning (outer K T number x y))
      (bracket_linear_left K T') (bracket_linear_right K T')
      (λ y. linear_after K meaning _ linear (outer_left y)) (λ x. linear_after K meaning _ linear (outer_right x))
      (λ i j l k p q.
      bracket_places K T' i j (omega (arith, step.more)) (omega (arith, step.more)) ∙ product_filled i j l k (omega arith) ∙
      ap meaning (sym (outer_places i j l k)))
    where
      outer_left : (y : Vector K) → IsLinear K (λ x. outer K T number x y)
      outer_left y = unfold outer in (bilinear_left K (length T.basis) (outer_place K T number) y)

      outer_right : (x : Vector K) → IsLinear K (λ y. outer K T number x y)
      outer_right x = unfold outer in (bilinear_right K (length T.basis) (outer_place K T number) x)

      outer_places : (i j : ℕ) → i < length T.basis → j < length T.basis → outer K T number (place K i) (place K j) ≡ outer_place K T number i j
      outer_places i j l k = unfold outer in (bilinear_places K (length T.basis) (outer_place K T number) i j l k)

  pub bracket_past : (b c : ℕ) → suc T.weight < b + c → (x y : Vector K) → IsOf K T' b x → IsOf K T' c y → bracket K T' x y ≡ vzero K
  bracket_past b c m =
      bilinear_agree K (length T'.basis) (λ i. weight_at T' i ≡ b) (λ i. weight_at T' i ≡ c) (bracket K T') (λ x y. vzero K)
      (bracket_linear_left K T') (bracket_linear_right K T') (λ y. zero_linear K) (λ x. zero_linear K)
      (λ i j l k p q. bracket_places K T' i j l k ∙ product_past K T' i j (omega (arith, step.weight)))

  module _ (graded : (i j : ℕ) → i < length T.basis → j < length T.basis → IsOf K T (weight_at T i + weight_at T j) (product K T i j))
      (graded' : (i j : ℕ) → i < length T'.basis → j < length T'.basis → IsOf K T' (weight_at T' i + weight_at T' j) (product K T' i j)) where
    inner : (i j : ℕ) → i < length T.basis → j < length T.basis → IsOf K T (weight_at T i + weight_at T j) (bracket K T (place K i) (place K j))
    inner i j l k = rw (bracket_places K T i j l k) (graded i j l k)

    inner' : (i j : ℕ) → i < length T'.basis → j < length T'.basis → IsOf K T' (weight_at T' i + weight_at T' j) (bracket K T' (place K i) (place K j))
    inner' i j l k = rw (bracket_places K T' i j l k) (graded' i j l k)

    here : (i : ℕ) → i < length T.basis → IsOf K T (weight_at T i) (place K i)
    here i l = place_stands K (length T.basis) (λ k. weight_at T k ≡ weight_at T i) i l refl

    here' : (i : ℕ) → i < length T'.basis → IsOf K T' (weight_at T' i) (place K i)
    here' i l = place_stands K (length T'.basis) (λ k. weight_at T' k ≡ weight_at T' i) i l refl

    -- past the new weight
    jacobi_past : (i j k : ℕ) → i < length T'.basis → j < length T'.basis → k < length T'.basis →
        suc T.weight < weight_at T' i + weight_at T' j + weight_at T' k → HasJacobi K T' i j k
    jacobi_past i j k p q r m =
        bracket_past (weight_at T' i) (weight_at T' j + weight_at T' k) (omega arith) _ _ (here' i p) (inner' j k q r)
        ∙ sym
        (ap₂ (λ u v. vplus K u (scale K (sign K (parity_at T' i) (parity_at T' j)) v))
        (bracket_past (weight_at T' i + weight_at T' j) (weight_at T' k) m _ _ (inner' i j p q) (here' k r))
        (bracket_past (weight_at T' j) (weight_at T' i + weight_at T' k) (omega arith) _ _ (here' j q) (inner' i k p r))
        ∙ ap (vplus K (vzero K)) (scale-vzero K _) ∙ vplus-vzero K _)

    -- below the new weight
    pub right_kept : (i j k : ℕ) → i < length T.basis → j < length T.basis → k < length T.basis → weight_at T i + (weight_at T j + weight_at T k) ≤ T.weight →
        bracket K T' (place K i) (bracket K T' (place K j) (place K k)) ≡ bracket K T (place K i) (bracket K T (place K j) (place K k))
    right_kept i j k p q r m =
        ap (bracket K T' (place K i)) (bracket_kept (weight_at T j) (weight_at T k) (omega arith) _ _ (here j q) (here k r))
        ∙ bracket_kept (weight_at T i) (weight_at T j + weight_at T k) m _ _ (here i p) (inner j k q r)

    pub left_kept : (i j k : ℕ) → i < length T.basis → j < length T.basis → k < length T.basis → weight_at T i + weight_at T j + weight_at T k ≤ T.weight →
        bracket K T' (bracket K T' (place K i) (place K j)) (place K k) ≡ bracket K T (bracket K T (place K i) (place K j)) (place K k)
    left_kept i j k p q r m =
        ap (λ w. bracket K T' w (place K k)) (bracket_kept (weight_at T i) (weight_at T j) (omega arith) _ _ (here i p) (here j q))
        ∙ bracket_kept (weight_at T i + weight_at T j) (weight_at T k) m _ _ (inner i j p q) (here k r)

    jacobi_kept : (i j k : ℕ) → i < length T.basis → j < length T.basis → k < length T.basis →
        weight_at T i + weight_at T j + weight_at T k ≤ T.weight → HasJacobi K T i j k → HasJacobi K T' i j k
    jacobi_kept i j k p q r m e =
        right_kept i j k p q r (omega arith) ∙ e
        ∙ ap₂ (vplus K) (sym (left_kept i j k p q r m))
        (ap₂ (λ s t. scale K (sign K s t) (bracket K T (place K j) (bracket K T (place K i) (place K k)))) (sym (parity_old i p)) (sym (parity_old j q))
        ∙ ap (scale K (sign K (parity_at T' i) (parity_at T' j))) (sym (right_kept j i k q p r (omega arith))))

    -- at the new weight
    pub right_filled : (i j k : ℕ) → i < length T.basis → j < length T.basis → k < length T.basis → 0 < weight_at T i →
        weight_at T i + (weight_at T j + weight_at T k) ≡ suc T.weight →
        bracket K T' (place K i) (bracket K T' (place K j) (place K k)) ≡ meaning (outer K T number (place K i) (bracket K T (place K j) (place K k)))
    right_filled i j k p q r z m =
        ap (bracket K T' (place K i)) (bracket_kept (weight_at T j) (weight_at T k) (omega arith) _ _ (here j q) (here k r))
        ∙ bracket_filled (weight_at T i) (weight_at T j + weight_at T k) m _ _ (here i p) (inner j k q r)

    left_filled : (i j k : ℕ) → i < length T.basis → j < length T.basis → k < length T.basis → 0 < weight_at T k →
        weight_at T i + weight_at T j + weight_at T k ≡ suc T.weight →
        bracket K T' (bracket K T' (place K i) (place K j)) (place K k) ≡ meaning (outer K T number (bracket K T (place K i) (place K j)) (place K k))
    left_filled i j k p q r z m =
        ap (λ w. bracket K T' w (place K k)) (bracket_kept (weight_at T i) (weight_at T j) (omega arith) _ _ (here i p) (here j q))
        ∙ bracket_filled (weight_at T i + weight_at T j) (weight_at T k) m _ _ (inner i j p q) (here k r)

    jacobi_filled : (i j k : ℕ) → i < length T.basis → j < length T.basis → k < length T.basis → 0 < weight_at T i → 0 < weight_at T j → 0 < weight_at T k →
        weight_at T i + weight_at T j + weight_at T k ≡ suc T.weight → meaning (jacobi_row K T number i j k) ≡ vzero K → HasJacobi K T' i j k
    unfolding jacobi_row
    jacobi_filled i j k p q r zi zj zk m e =
        right_filled i j k p q r zi (omega arith)
        ∙ apart_zero K _ _ (sym (linear.of_plus _ _ ∙ ap (vplus K _) (linear.of_scale _ _)) ∙ e)
        ∙ linear.of_plus _ _
        ∙ ap₂ (vplus K) (sym (left_filled i j k p q r zk m))
        (linear.of_scale _ _
        ∙ ap₂ (λ s t. scale K (sign K s t) (meaning (outer K T number (place K j) (bracket K T (place K i) (place K k))))) (sym (parity_old i p))
        (sym (parity_old j q))
        ∙ ap (scale K (sign K (parity_at T' i) (parity_at T' j))) (sym (right_filled j i k q p r zj (omega arith))))

    -- all triples, ordered or not
    pub jacobi_next : ((i j k : ℕ) → i ≤ j → j ≤ k → k < length T.basis → HasJacobi K T i j k) →
        ((i j k : ℕ) → i ≤ j → j ≤ k → k < length T.basis → weight_at T i + weight_at T j + weight_at T k ≡ suc T.weight →
        meaning (jacobi_row K T number i j k) ≡ vzero K) →
        (i j k : ℕ) → i ≤ j → j ≤ k → k < length T'.basis → HasJacobi K T' i j k
    jacobi_next before rows i j k o o' l = go (dec_lt k (length T.basis)) (dec_le (weight_at T i + weight_at T j + weight_at T k) T.weight)
        (ℕ_discrete (weight_at T i + weight_at T j + weight_at T k) (suc T.weight))
      where
        i' : i < length T'.basis
        i' = omega arith

        j' : j < length T'.basis
        j' = omega arith

        positive : (m : ℕ) → m < length T.basis → 0 < weight_at T m
        positive m h = omega (arith, weight_old m h, step.positive m (omega (arith, step.more)))

        go : Dec (k < length T.basis) → Dec (weight_at T i + weight_at T j + weight_at T k ≤ T.weight) →
            Dec (weight_at T i + weight_at T j + weight_at T k ≡ suc T.weight) → HasJacobi K T' i j k
        go (yes h) (yes b) d = jacobi_kept i j k (omega arith) (omega arith) h b (before i j k o o' h)
        go (yes h) (no b) (yes d) = jacobi_filled i j k (omega arith) (omega arith) h (positive i (omega arith)) (positive j (omega arith))
            (positive k h) d (rows i j k o o' h d)
        go (yes h) (no b) (no d) =
            jacobi_past i j k i' j' l (omega (arith, weight_old i (omega arith), weight_old j (omega arith), weight_old k h))
        go (no h) b d = jacobi_past i j k i' j' l (omega (arith, step.fresh k (omega arith) l, step.positive i i', step.positive j j'))
