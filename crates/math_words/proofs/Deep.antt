-- The action obeys a bracket on a word that begins with an element smaller than both.
use Rattle.std.specs.Prelude.{ℕ, suc, ◌∷◌, ◌≡◌, ◌⊎◌, ◌<◌, ◌≤◌, length, true}
use mathlib.Core.Path.{sym, refl, ap, ap₂, ◌∙◌}
use mathlib.Core.Logic.{inl, inr}
use native.Mathlib.Omega.{arith}
use Rattle.math_fields.specs.Field.{Field}
use Rattle.math_linear.specs.Vector.{Vector, place}
use Rattle.math_algebra.specs.Tree.{Parity, parity_sum, Presentation}
use Rattle.math_algebra.specs.Derives.{sign}
use Rattle.math_algebra.specs.Table.{Table, parity_at, bracket, IsIn, ObeysLaw}
use Rattle.math_values.proofs.Parts.{in_place, in_bracket}
use Rattle.math_values.proofs.Sound.{jacobi_parts}
use Rattle.math_words.specs.Words.{Word, may_stand, IsOrdered}
use Rattle.math_words.specs.Words.IsOrdered.{ordered_more}
use Rattle.math_words.specs.Action.{Form, acts}
use Rattle.math_words.proofs.Members.{IsResult, head_in}
use Rattle.math_words.proofs.Linear.{acts_form, acts_plus, acts_times}
use Rattle.math_words.proofs.Numbers.{deep_numbers}
use Rattle.math_words.proofs.Parts.{Obeys, ObeysPlaces, stands_acts, acts_less, acts_agree, obeys_parts}

module _ (K : Field) (P : Presentation K.Carrier) (T : Table K) (law : ObeysLaw K P T) where
  -- where the smaller element may stand in front
  pub obeys_stand : (i j : ℕ) (w : Word) (f : Form K) → i < length T.basis → j < length T.basis → IsOrdered T w → may_stand T j w ≡ true → j < i →
      Obeys K T (parity_at T i) (parity_at T j) (place K i) (place K j) w f
  obeys_stand i j w f l k o h d = stands_acts K P T law j w (λ u. acts K T (place K i) u f) k h ∙ acts_less K P T law i j w f l (ordered_more j w k h o) d

  abbrev pub ObeysThrough : ℕ → Type 0
  ObeysThrough n = (u : Word) → IsOrdered T u → length u ≤ n → ObeysPlaces K T u

  -- b_i b_k on the words of b_a on v, where k may stand before v
  pub through : (a i k : ℕ) (v : Word) (f : Form K) → a < length T.basis → i < length T.basis → k < length T.basis → k < a → k < i → IsOrdered T v →
      may_stand T k v ≡ true → ObeysThrough (length v) →
      acts K T (place K a) v (λ u. acts K T (place K k) u (λ z. acts K T (place K i) z f))
      ≡ K.plus (K.times (sign K (parity_at T i) (parity_at T k)) (acts K T (place K a) v (λ u. acts K T (place K i) u (λ z. acts K T (place K k) z f))))
      (acts K T (place K a) v (λ u. acts K T (bracket K T (place K i) (place K k)) u f))
  through a i k v f la li lk ka ki o h hyp =
      acts_agree K P T law a v _ _ la o (λ u r. at_word u r r.size)
      ∙ acts_plus K P T law (place K a) v _ _ o
      ∙ ap (λ c. K.plus c (acts K T (place K a) v (λ u. acts K T (bracket K T (place K i) (place K k)) u f))) (acts_times K P T law (place K a) _ v _ o)
    where
      at_word : (u : Word) → IsResult K T a v u → (length u ≤ length v) ⊎
          ((length u ≡ suc (length v)) × ((k : ℕ) → k < a → may_stand T k v ≡ true → may_stand T k u ≡ true)) →
          Obeys K T (parity_at T i) (parity_at T k) (place K i) (place K k) u f
      at_word u r (inl m) = hyp u r.ordered m i k li lk f
      at_word u r (inr m) = obeys_stand i k u f li lk r.ordered (m.1 k ka h) ki

  pub obeys_deep : (i j k : ℕ) (v : Word) (f : Form K) → i < length T.basis → j < length T.basis → k < i → k < j → IsOrdered T (k ∷ v) →
      ObeysThrough (length v) →
      Obeys K T (parity_at T i) (parity_at T j) (place K i) (place K j) (k ∷ v) f
  obeys_deep i j k v f li lj ki kj o hyp = first_side ∙ deep_numbers K s t u a b c d e g h jacobi ∙ sym second_side
    where
      lk : k < length T.basis
      lk = (head_in K T o).0

      stands : may_stand T k v ≡ true
      stands = (head_in K T o).1

      rest : IsOrdered T v
      rest = (head_in K T o).2

      s : Parity
      s = parity_at T i

      t : Parity
      t = parity_at T j

      u : Parity
      u = parity_at T k

      x : Vector K
      x = place K i

      y : Vector K
      y = place K j

      z : Vector K
      z = place K k

      x_in : IsIn K T (parity_at T i) (place K i)
      x_in = in_place K T i _ li refl

      y_in : IsIn K T (parity_at T j) (place K j)
      y_in = in_place K T j _ lj refl

      z_in : IsIn K T (parity_at T k) (place K k)
      z_in = in_place K T k _ lk refl

      on_rest : (s t : Parity) (x y : Vector K) → IsIn K T s x → IsIn K T t y → (f : Form K) → Obeys K T s t x y v f
      on_rest = obeys_parts K P T law v rest (hyp v rest (omega arith))

      a : K.Carrier
      a = acts K T (place K i) v (λ p. acts K T (place K j) p (λ q. acts K T (place K k) q f))

      b : K.Carrier
      b = acts K T (bracket K T (place K i) (place K j)) v (λ p. acts K T (place K k) p f)

      c : K.Carrier
      c = acts K T (place K j) v (λ p. acts K T (bracket K T (place K i) (place K k)) p f)

      d : K.Carrier
      d = acts K T (place K i) v (λ p. acts K T (bracket K T (place K j) (place K k)) p f)

      e : K.Carrier
      e = acts K T (bracket K T (place K j) (bracket K T (place K i) (place K k))) v f

      g : K.Carrier
      g = acts K T (bracket K T (bracket K T (place K i) (place K j)) (place K k)) v f

      h : K.Carrier
      h = acts K T (bracket K T (place K i) (bracket K T (place K j) (place K k))) v f

      jacobi : h ≡ K.plus g (K.times (sign K s t) e)
      jacobi =
          ap (λ w. acts K T w v f) (jacobi_parts K P T law s t u x y z x_in y_in z_in) ∙ (acts_form K T v f).of_plus _ _
          ∙ ap (K.plus g) ((acts_form K T v f).of_scale _ _)

      first_side : acts K T (place K j) (k ∷ v) (λ p. acts K T (place K i) p f)
          ≡ K.plus (K.times (sign K t u) (K.plus (K.times (sign K s u) (K.plus (K.times (sign K s t) a) b)) c))
          (K.plus (K.times (sign K s (parity_sum t u)) d) h)
      first_side =
          acts_less K P T law j k v (λ p. acts K T (place K i) p f) lj o kj
          ∙ ap₂ (λ m n. K.plus (K.times (sign K t u) m) n)
          (through j i k v f lj li lk kj ki rest stands hyp
          ∙ ap (λ m. K.plus (K.times (sign K s u) m) c) (on_rest s t x y x_in y_in (λ p. acts K T (place K k) p f)))
          (on_rest s (parity_sum t u) x (bracket K T (place K j) (place K k)) x_in (in_bracket K T law.graded t u y z y_in z_in) f)

      bracket_side : acts K T (bracket K T (place K i) (place K j)) (k ∷ v) f ≡ K.plus (K.times (sign K (parity_sum s t) u) b) g
      bracket_side =
          sym (stands_acts K P T law k v (λ p. acts K T (bracket K T (place K i) (place K j)) p f) lk stands)
          ∙ on_rest (parity_sum s t) u (bracket K T (place K i) (place K j)) z (in_bracket K T law.graded s t x y x_in y_in) z_in f

      second_side : K.plus (K.times (sign K s t) (acts K T (place K i) (k ∷ v) (λ p. acts K T (place K j) p f)))
          (acts K T (bracket K T (place K i) (place K j)) (k ∷ v) f)
          ≡ K.plus (K.times (sign K s t) (K.plus (K.times (sign K s u) (K.plus (K.times (sign K t u) a) d))
          (K.plus (K.times (sign K t (parity_sum s u)) c) e))) (K.plus (K.times (sign K (parity_sum s t) u) b) g)
      second_side =
          ap₂ (λ m n. K.plus (K.times (sign K s t) m) n)
          (acts_less K P T law i k v (λ p. acts K T (place K j) p f) li o ki
          ∙ ap₂ (λ m n. K.plus (K.times (sign K s u) m) n) (through i j k v f li lj lk ki kj rest stands hyp)
          (on_rest t (parity_sum s u) y (bracket K T (place K i) (place K k)) y_in (in_bracket K T law.graded s u x z x_in z_in) f))
          bracket_side
