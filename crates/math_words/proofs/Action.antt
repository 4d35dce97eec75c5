-- The action obeys the bracket of each two basis elements on each ordered word.
use Rattle.std.specs.Prelude.{ℕ, zero, suc, [], ◌∷◌, ◌≡◌, ◌<◌, length, true}
use mathlib.Core.Path.{sym, refl, subst}
use native.Mathlib.Omega.{arith}
use native.Mathlib.Decide.{dec_lt}
use Rattle.math_fields.specs.Field.{Field}
use Rattle.math_linear.specs.Vector.{place}
use Rattle.math_algebra.specs.Tree.{Parity, even, odd, Presentation}
use Rattle.math_algebra.specs.Table.{Table, parity_at, ObeysLaw}
use Rattle.math_values.proofs.Parts.{in_place}
use Rattle.math_words.specs.Words.{Word, may_stand, IsOrdered}
use Rattle.math_words.specs.Words.IsOrdered.{ordered_none}
use Rattle.math_words.specs.Action.{Form}
use Rattle.math_words.proofs.Steps.{stand_less, stand_even}
use Rattle.math_words.proofs.Members.{stand_none, length-more}
use Rattle.math_words.proofs.Parts.{Obeys, ObeysPlaces}
use Rattle.math_words.proofs.Deep.{ObeysThrough, obeys_stand, obeys_deep}
use Rattle.math_words.proofs.Odd.{obeys_even, half_obeys, half_stand, half_again, obeys_odd, obeys_exchanged}

module _ (K : Field) (P : Presentation K.Carrier) (T : Table K) (law : ObeysLaw K P T) where
  -- from the cases of a greater element before a smaller one, and of an odd one twice
  by_cases : (w : Word) → ((i j : ℕ) → i < length T.basis → j < length T.basis → j < i → (f : Form K) →
      Obeys K T (parity_at T i) (parity_at T j) (place K i) (place K j) w f) →
      ((i : ℕ) → i < length T.basis → parity_at T i ≡ odd → (f : Form K) → Obeys K T odd odd (place K i) (place K i) w f) → ObeysPlaces K T w
  by_cases w greater twice i j l k f = by_order (dec_lt j i) (dec_lt i j)
    where
      itself : (s : Parity) → parity_at T i ≡ s → Obeys K T (parity_at T i) (parity_at T i) (place K i) (place K i) w f
      itself even e = subst (λ s. Obeys K T s s (place K i) (place K i) w f) (sym e) (obeys_even K P T law i w f l e)
      itself odd e = subst (λ s. Obeys K T s s (place K i) (place K i) w f) (sym e) (twice i l e f)

      by_order : Dec (j < i) → Dec (i < j) → Obeys K T (parity_at T i) (parity_at T j) (place K i) (place K j) w f
      by_order (yes d) e = greater i j l k d f
      by_order (no d) (yes e) = obeys_exchanged K P T law _ _ _ _ w f (in_place K T j _ k refl) (in_place K T i _ l refl) (greater j i k l e f)
      by_order (no d) (no e) = let same : i ≡ j = omega arith in
          subst (λ m. Obeys K T (parity_at T i) (parity_at T m) (place K i) (place K m) w f) same (itself (parity_at T i) refl)

  on_none : ObeysPlaces K T []
  on_none =
      by_cases [] (λ i j l k d f. obeys_stand K P T law i j [] f l k ordered_none (stand_none K T j) d)
      (λ i l e f. half_obeys K P T law i [] f (half_stand K P T law i [] f l e (stand_none K T i)))

  on_more : (k : ℕ) (v : Word) → IsOrdered T (k ∷ v) → ObeysThrough K P T law (length v) → ObeysPlaces K T (k ∷ v)
  on_more k v o hyp = by_cases (k ∷ v) greater twice
    where
      greater : (i j : ℕ) → i < length T.basis → j < length T.basis → j < i → (f : Form K) →
          Obeys K T (parity_at T i) (parity_at T j) (place K i) (place K j) (k ∷ v) f
      greater i j li lj d f = by_order (dec_lt k j) (dec_lt j k)
        where
          itself : (s : Parity) → parity_at T j ≡ s → j ≡ k → Obeys K T (parity_at T i) (parity_at T j) (place K i) (place K j) (k ∷ v) f
          itself even e same = obeys_stand K P T law i j (k ∷ v) f li lj o (subst (λ m. may_stand T j (m ∷ v) ≡ true) same (stand_even K T j v e)) d
          itself odd e same =
              subst (λ s. Obeys K T (parity_at T i) s (place K i) (place K j) (k ∷ v) f) (sym e)
              (subst (λ m. Obeys K T (parity_at T i) odd (place K i) (place K j) (m ∷ v) f) same
              (obeys_odd K P T law i j v f li lj d e (subst (λ m. IsOrdered T (m ∷ v)) (sym same) o) hyp))

          by_order : Dec (k < j) → Dec (j < k) → Obeys K T (parity_at T i) (parity_at T j) (place K i) (place K j) (k ∷ v) f
          by_order (yes e) c = obeys_deep K P T law i j k v f li lj (omega arith) e o hyp
          by_order (no e) (yes c) = obeys_stand K P T law i j (k ∷ v) f li lj o (stand_less K T j k v c) d
          by_order (no e) (no c) = itself (parity_at T j) refl (omega arith)

      twice : (i : ℕ) → i < length T.basis → parity_at T i ≡ odd → (f : Form K) → Obeys K T odd odd (place K i) (place K i) (k ∷ v) f
      twice i l e f = by_order (dec_lt k i) (dec_lt i k)
        where
          by_order : Dec (k < i) → Dec (i < k) → Obeys K T odd odd (place K i) (place K i) (k ∷ v) f
          by_order (yes d) c = subst (λ s. Obeys K T s s (place K i) (place K i) (k ∷ v) f) e (obeys_deep K P T law i i k v f l l d d o hyp)
          by_order (no d) (yes c) = half_obeys K P T law i (k ∷ v) f (half_stand K P T law i (k ∷ v) f l e (stand_less K T i k v c))
          by_order (no d) (no c) =
              let same : i ≡ k = omega arith in
              subst (λ m. Obeys K T odd odd (place K i) (place K i) (m ∷ v) f) same
              (half_obeys K P T law i (i ∷ v) f (half_again K P T law i v f l e (subst (λ m. IsOrdered T (m ∷ v)) (sym same) o) hyp))

  -- by the number of letters
  pub obeys_through : (n : ℕ) → ObeysThrough K P T law n
  obeys_through n [] o m = on_none
  obeys_through zero (k ∷ v) o m = absurd (let e : length (k ∷ v) ≡ suc (length v) = length-more K T k v in omega arith)
  obeys_through (suc n) (k ∷ v) o m = on_more k v o
      (λ u p q. obeys_through n u p (let e : length (k ∷ v) ≡ suc (length v) = length-more K T k v in omega arith))

  pub obeys : (w : Word) → IsOrdered T w → ObeysPlaces K T w
  obeys w o = obeys_through (length w) w o (omega arith)
