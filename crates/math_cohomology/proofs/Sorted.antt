-- A form that is 0 at the sorted tuples is 0.
use Rattle.std.specs.Prelude.{ℕ, ◌≡◌, ◌<◌, ◌≤◌, ◌⊎◌, length}
use mathlib.Core.Logic.{inl, inr}
use mathlib.Core.Path.{sym, refl, ap, ap₂, ◌∙◌}
use native.Mathlib.Omega.{arith}
use native.Mathlib.Decide.{dec_lt, dec_le}
use Rattle.math_fields.specs.Field.{Field}
use Rattle.math_algebra.specs.Tree.{Parity, even, odd}
use Rattle.math_algebra.specs.Derives.{sign}
use Rattle.math_algebra.specs.Table.{Table, parity_at, IsRegular}
use Rattle.math_linear.proofs.Numbers.{times-nought, unit-times, minus-times, plus_times}
use Rattle.math_cohomology.specs.Forms.{Two, Three, sign_at, IsForm2, IsForm3}
use Rattle.math_cohomology.specs.Laws.{IsSorted, SortedSuffice2, SortedSuffice3}

module _ (K : Field) where
  -- what is its own negative is 0
  pub own_negative : (x : K.Carrier) → x ≡ K.times (K.minus K.unit) x → x ≡ K.nought
  own_negative x e =
      sym (unit-times K x) ∙ ap (λ c. K.times c x) (sym (K.times-inverse two K.two≢nought) ∙ K.times_comm _ _) ∙ K.times_assoc _ _ _
      ∙ ap (K.times (K.inverse two))
      (plus_times K K.unit K.unit x ∙ ap₂ K.plus (unit-times K x) (unit-times K x ∙ e ∙ minus-times K K.unit x ∙ ap K.minus (unit-times K x)) ∙ K.plus-minus x)
      ∙ times-nought K _
    where
      two : K.Carrier
      two = K.plus K.unit K.unit

  pub times_none : (c x : K.Carrier) → x ≡ K.nought → K.times c x ≡ K.nought
  times_none c x e = ap (K.times c) e ∙ times-nought K c

  module _ (T : Table K) where
    -- an equal pair is regular, or its sign is 1
    pub equal_pair : (i j : ℕ) → i ≡ j → IsRegular T i j ⊎ (K.minus (sign_at K T i j) ≡ K.minus K.unit)
    equal_pair i j e = go (parity_at T i) refl
      where
        go : (s : Parity) → parity_at T i ≡ s → IsRegular T i j ⊎ (K.minus (sign_at K T i j) ≡ K.minus K.unit)
        go odd h = inl (inr (e, h))
        go even h = inr (ap (λ s. K.minus (sign K s (parity_at T j))) h)

    pub in_order : (i j : ℕ) → i ≤ j → IsRegular T i j ⊎ (i ≡ j) × (K.minus (sign_at K T i j) ≡ K.minus K.unit)
    in_order i j l = go (dec_lt i j)
      where
        equal : i ≡ j → IsRegular T i j ⊎ (K.minus (sign_at K T i j) ≡ K.minus K.unit) →
            IsRegular T i j ⊎ (i ≡ j) × (K.minus (sign_at K T i j) ≡ K.minus K.unit)
        equal e (inl r) = inl r
        equal e (inr r) = inr (e, r)

        go : Dec (i < j) → IsRegular T i j ⊎ (i ≡ j) × (K.minus (sign_at K T i j) ≡ K.minus K.unit)
        go (yes m) = inl (inl m)
        go (no m) = (let e : i ≡ j = omega arith in equal e (equal_pair i j e))

    module _ (w : ℕ) (f : Two K) (h : IsForm2 K T w f) (zero : (i j : ℕ) → j < length T.basis → IsRegular T i j → f i j ≡ K.nought) where
      ordered2 : (i j : ℕ) → i ≤ j → j < length T.basis → f i j ≡ K.nought
      ordered2 i j l m = go (in_order i j l)
        where
          go : IsRegular T i j ⊎ (i ≡ j) × (K.minus (sign_at K T i j) ≡ K.minus K.unit) → f i j ≡ K.nought
          go (inl r) = zero i j m r
          go (inr e) = own_negative (f i j) (h.exchanges i j (omega arith) m ∙ ap₂ K.times e.1 (ap₂ f (sym e.0) e.0))

      pub all2 : (i j : ℕ) → i < length T.basis → j < length T.basis → f i j ≡ K.nought
      all2 i j l m = elim (dec_le i j) [ yes a ↦ ordered2 i j a m | no a ↦ h.exchanges i j l m ∙ times_none _ _ (ordered2 j i (omega arith) l) ]

    -- two forms that agree at the regular pairs agree
    module _ (w : ℕ) (f g : Two K) (h : IsForm2 K T w f) (k : IsForm2 K T w g) (same : (i j : ℕ) → j < length T.basis → IsRegular T i j → f i j ≡ g i j) where
      ordered_agree : (i j : ℕ) → i ≤ j → j < length T.basis → f i j ≡ g i j
      ordered_agree i j l m = go (in_order i j l)
        where
          itself : (f : Two K) → IsForm2 K T w f → (i ≡ j) × (K.minus (sign_at K T i j) ≡ K.minus K.unit) → f i j ≡ K.nought
          itself f h e = own_negative (f i j) (h.exchanges i j (let d = e.0 in omega arith) m ∙ ap₂ K.times e.1 (ap₂ f (sym e.0) e.0))

          go : IsRegular T i j ⊎ (i ≡ j) × (K.minus (sign_at K T i j) ≡ K.minus K.unit) → f i j ≡ g i j
          go (inl r) = same i j m r
          go (inr e) = itself f h e ∙ sym (itself g k e)

      pub agree2 : (i j : ℕ) → i < length T.basis → j < length T.basis → f i j ≡ g i j
      agree2 i j l m =
          elim (dec_le i j) [
            | yes a ↦ ordered_agree i j a m
            | no a ↦ h.exchanges i j l m ∙ ap (K.times _) (ordered_agree j i (omega arith) l) ∙ sym
                (k.exchanges i j l m)
          ]

    module _ (w : ℕ) (f : Three K) (h : IsForm3 K T w f) (zero : (i j k : ℕ) → k < length T.basis → IsSorted K T i j k → f i j k ≡ K.nought) where
      ordered3 : (i j k : ℕ) → i ≤ j → j ≤ k → k < length T.basis → f i j k ≡ K.nought
      ordered3 i j k l m o = go (in_order i j l) (in_order j k m)
        where
          go : IsRegular T i j ⊎ (i ≡ j) × (K.minus (sign_at K T i j) ≡ K.minus K.unit) →
              IsRegular T j k ⊎ (j ≡ k) × (K.minus (sign_at K T j k) ≡ K.minus K.unit) → f i j k ≡ K.nought
          go (inl r) (inl r') = zero i j k o (r, r')
          go (inr e) r' = own_negative (f i j k) (h.first i j k (omega arith) (omega arith) o ∙ ap₂ K.times e.1 (ap₂ (λ a b. f a b k) (sym e.0) e.0))
          go (inl r) (inr e) = own_negative (f i j k) (h.last i j k (omega arith) (omega arith) o ∙ ap₂ K.times e.1 (ap₂ (f i) (sym e.0) e.0))

      by_first : (i j k : ℕ) → i < length T.basis → j < length T.basis → k < length T.basis → f j i k ≡ K.nought → f i j k ≡ K.nought
      by_first i j k l m o e = h.first i j k l m o ∙ times_none _ _ e

      by_last : (i j k : ℕ) → i < length T.basis → j < length T.basis → k < length T.basis → f i k j ≡ K.nought → f i j k ≡ K.nought
      by_last i j k l m o e = h.last i j k l m o ∙ times_none _ _ e

      pub all3 : (i j k : ℕ) → i < length T.basis → j < length T.basis → k < length T.basis → f i j k ≡ K.nought
      all3 i j k l m o = by_order (dec_le i j) (dec_le j k) (dec_le i k)
        where
          by_order : Dec (i ≤ j) → Dec (j ≤ k) → Dec (i ≤ k) → f i j k ≡ K.nought
          by_order (yes a) (yes b) c = ordered3 i j k a b o
          by_order (yes a) (no b) (yes c) = by_last i j k l m o (ordered3 i k j c (omega arith) m)
          by_order (yes a) (no b) (no c) = by_last i j k l m o (by_first i k j l o m (ordered3 k i j (omega arith) a m))
          by_order (no a) (yes b) (yes c) = by_first i j k l m o (ordered3 j i k (omega arith) c o)
          by_order (no a) (yes b) (no c) = by_first i j k l m o (by_last j i k m l o (ordered3 j k i b (omega arith) l))
          by_order (no a) (no b) c = by_first i j k l m o (by_last j i k m l o (by_first j k i m o l (ordered3 k j i (omega arith) (omega arith) l)))

  pub sorted_suffice2 : SortedSuffice2 K
  sorted_suffice2 T w f h zero i j l m = all2 T w f h zero i j l m

  pub sorted_suffice3 : SortedSuffice3 K
  sorted_suffice3 T w f h zero i j k l m o = all3 T w f h zero i j k l m o
