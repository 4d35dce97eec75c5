-- The letters of a word, one after the other: they keep linear laws, ordered words stay, and relations give 0.
use Rattle.std.specs.Prelude.{ℕ, zero, suc, [], ◌∷◌, ◌++◌, ◌≡◌, ◌+◌, ◌<◌, length}
use mathlib.Core.Path.{sym, refl, ap, ap₂, ◌∙◌, fun_ext}
use native.Mathlib.Omega.{arith}
use Rattle.math_fields.specs.Field.{Field}
use Rattle.math_linear.specs.Vector.{Vector, place}
use Rattle.math_linear.specs.Kernel.{product_sum}
use Rattle.math_linear.proofs.Numbers.{plus_cancel, nought-plus, times-nought}
use Rattle.math_algebra.specs.Tree.{Presentation}
use Rattle.math_algebra.specs.Derives.{sign}
use Rattle.math_algebra.specs.Table.{Table, weight_at, parity_at, product, ObeysLaw}
use Rattle.math_values.proofs.Products.{bracket_places}
use Rattle.math_words.specs.Words.{Word, IsWord, word_weight, IsOrdered}
use Rattle.math_words.specs.Words.IsOrdered.{ordered_none, ordered_more}
use Rattle.math_words.specs.Action.{Form, action, acts, letters, straight}
use Rattle.math_words.specs.Envelope.{Value, IsNothing}
use Rattle.math_words.specs.Envelope.IsNothing.{nothing_relation, nothing_none, nothing_sum, nothing_multiple}
use Rattle.math_words.proofs.Spaces.{IsSpace}
use Rattle.math_words.proofs.Fuel.{agreeing, action_stand, action_in}
use Rattle.math_words.proofs.Linear.{plus_space, times_space, acts_place}
use Rattle.math_words.proofs.Action.{obeys}

module _ (K : Field) where
  pub letters_joined : (T : Table K) (b w z : Word) (f : Form K) → letters K T (b ++ w) z f ≡ letters K T w z (λ y. letters K T b y f)
  unfolding letters
  letters_joined T [] w z f = refl
  letters_joined T (i ∷ b) w z f = letters_joined T b w z (λ u. action K T i u f)

module _ (K : Field) (P : Presentation K.Carrier) (T : Table K) (law : ObeysLaw K P T) where
  pub letters_in : (S : Value K → Type 0) → IsSpace K S → (w z : Word) → IsWord T w → IsOrdered T z → (y : Word → Value K) →
      ((u : Word) → IsOrdered T u → word_weight T u ≡ word_weight T w + word_weight T z → S (y u)) → S (λ f. letters K T w z (λ u. y u f))
  unfolding letters word_weight
  letters_in S space [] z l o y h = h z o (omega arith)
  letters_in S space (i ∷ w) z l o y h =
      letters_in S space w z l.1 o (λ v f. action K T i v (λ u. y u f))
      (λ v p e. action_in K P T law S space i v l.0 p y
      (λ u r. h u r.ordered (let e1 : word_weight T u ≡ weight_at T i + word_weight T v = r.weight in omega arith)))

  pub letters_agree : (w z : Word) (g h : Form K) → IsWord T w → IsOrdered T z → ((u : Word) → IsOrdered T u → g u ≡ h u) →
      letters K T w z g ≡ letters K T w z h
  letters_agree w z g h l o same = letters_in (λ x. x g ≡ x h) (agreeing K g h) w z l o (λ u f. f u) (λ u p e. same u p)

  pub letters_plus : (w z : Word) (g h : Form K) → IsWord T w → IsOrdered T z →
      letters K T w z (λ u. K.plus (g u) (h u)) ≡ K.plus (letters K T w z g) (letters K T w z h)
  letters_plus w z g h l o = letters_in (λ v. v (λ u. K.plus (g u) (h u)) ≡ K.plus (v g) (v h)) (plus_space K g h) w z l o (λ u f. f u) (λ u p e. refl)

  pub letters_times : (a : K.Carrier) (w z : Word) (g : Form K) → IsWord T w → IsOrdered T z →
      letters K T w z (λ u. K.times a (g u)) ≡ K.times a (letters K T w z g)
  letters_times a w z g l o = letters_in (λ v. v (λ u. K.times a (g u)) ≡ K.times a (v g)) (times_space K a g) w z l o (λ u f. f u) (λ u p e. refl)

  letters_nought : (w z : Word) → IsWord T w → IsOrdered T z → letters K T w z (λ u. K.nought) ≡ K.nought
  letters_nought w z l o = letters_in (λ v. v (λ u. K.nought) ≡ K.nought) space w z l o (λ u f. f u) (λ u p e. refl)
    where
      space : IsSpace K (λ v. v (λ u. K.nought) ≡ K.nought)
      space = record { none = refl; plus = λ x y p q. ap₂ K.plus p q ∙ K.plus-nought _; times = λ c x p. ap (K.times c) p ∙ times-nought K c }

  pub letters_sum : (m : ℕ) (w z : Word) (g : ℕ → Form K) (c : Vector K) → IsWord T w → IsOrdered T z →
      letters K T w z (λ u. product_sum K m (λ t. g t u) c) ≡ product_sum K m (λ t. letters K T w z (g t)) c
  unfolding product_sum
  letters_sum zero w z g c l o = letters_nought w z l o
  letters_sum (suc m) w z g c l o =
      letters_plus w z _ _ l o
      ∙ ap₂ K.plus (letters_sum m w z g c l o)
      (ap (letters K T w z) (fun_ext (λ u. K.times_comm _ _)) ∙ letters_times (c m) w z (g m) l o ∙ K.times_comm _ _)

  -- an ordered word stays
  pub straight_ordered : (w : Word) (f : Form K) → IsOrdered T w → straight K T w f ≡ f w
  unfolding letters
  straight_ordered [] f o = refl
  straight_ordered (i ∷ w) f (ordered_more _ _ l h o) = straight_ordered w (λ u. action K T i u f) o ∙ action_stand K P T law i w f h

  -- b_i b_j on an ordered word
  pub action_obeys : (i j : ℕ) (w : Word) (f : Form K) → i < length T.basis → j < length T.basis → IsOrdered T w →
      action K T j w (λ u. action K T i u f) ≡ K.plus (K.times (sign K (parity_at T i) (parity_at T j)) (action K T i w (λ u. action K T j u f)))
      (acts K T (product K T i j) w f)
  action_obeys i j w f l k o =
      sym (two j i k l) ∙ obeys K P T law w o i j l k f
      ∙ ap₂ (λ a x. K.plus (K.times (sign K (parity_at T i) (parity_at T j)) a) (acts K T x w f)) (two i j l k) (bracket_places K T i j l k)
    where
      two : (a b : ℕ) → a < length T.basis → b < length T.basis →
          acts K T (place K a) w (λ u. acts K T (place K b) u f) ≡ action K T a w (λ u. action K T b u f)
      two a b p q = acts_place K T a w _ p ∙ ap (action K T a w) (fun_ext (λ u. acts_place K T b u f q))

  -- the letters of a word, with b_i b_j among them
  pub straight_obeys : (b : Word) (i j : ℕ) (w : Word) (f : Form K) → i < length T.basis → j < length T.basis → IsWord T w →
      straight K T (b ++ (i ∷ j ∷ w)) f
      ≡ K.plus (K.times (sign K (parity_at T i) (parity_at T j)) (straight K T (b ++ (j ∷ i ∷ w)) f))
      (product_sum K (length T.basis) (λ t. straight K T (b ++ (t ∷ w)) f) (product K T i j))
  unfolding letters acts
  straight_obeys b i j w f l k o =
      letters_joined K T b (i ∷ j ∷ w) [] f
      ∙ letters_agree w [] _ _ o ordered_none (λ u p. action_obeys i j u g l k p)
      ∙ letters_plus w [] _ _ o ordered_none
      ∙ ap₂ K.plus (letters_times _ w [] _ o ordered_none ∙ ap (K.times _) (sym (letters_joined K T b (j ∷ i ∷ w) [] f)))
      (letters_sum (length T.basis) w [] (λ t u. action K T t u g) (product K T i j) o ordered_none
      ∙ ap (λ h. product_sum K (length T.basis) h (product K T i j)) (fun_ext (λ t. sym (letters_joined K T b (t ∷ w) [] f))))
    where
      g : Form K
      g y = letters K T b y f

  -- what is nothing in the enveloping superalgebra, through any weight, straightens to 0
  pub nothing_straight : (d : ℕ) (x : Value K) → IsNothing K T d x → (f : Form K) → x (λ w. straight K T w f) ≡ K.nought
  nothing_straight d _ (nothing_relation x h) f =
      plus_cancel K _ _ _
      (h.is (λ w. straight K T w f) ∙ straight_obeys h.before h.first h.second h.after f h.first_in h.second_in h.after_in ∙ sym (nought-plus K _))
  nothing_straight d _ nothing_none f = refl
  nothing_straight d _ (nothing_sum x y h k) f = ap₂ K.plus (nothing_straight d x h f) (nothing_straight d y k f) ∙ K.plus-nought _
  nothing_straight d _ (nothing_multiple c x h) f = ap (K.times c) (nothing_straight d x h f) ∙ times-nought K c
