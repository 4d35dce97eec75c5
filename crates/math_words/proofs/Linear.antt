-- The action is linear: in what acts, and in the form.
use Rattle.std.specs.Prelude.{ℕ, ◌≡◌, ◌<◌, length}
use mathlib.Core.Path.{sym, refl, ap, ap₂, ◌∙◌, fun_ext}
use mathlib.Core.Logic.{inr}
use Rattle.math_fields.specs.Field.{Field}
use Rattle.math_linear.specs.Vector.{Vector, vzero, vplus, scale, place}
use Rattle.math_linear.proofs.Numbers.{plus_left_comm, times-nought, nought-times, times_left_comm}
use Rattle.math_linear.proofs.Vectors.{place_same, place_other}
use Rattle.math_linear.proofs.Kernel.{product-vplus, product-scale, product-vzero, product_one}
use Rattle.math_algebra.specs.Tree.{Parity, Presentation}
use Rattle.math_algebra.specs.Table.{Table, parity_at, IsIn, ObeysLaw}
use Rattle.math_values.proofs.Products.{by_part}
use Rattle.math_words.specs.Words.{Word, IsOrdered}
use Rattle.math_words.specs.Action.{Form, action, acts}
use Rattle.math_words.specs.Envelope.{Value}
use Rattle.math_words.proofs.Spaces.{IsSpace, sum_in}
use Rattle.math_words.proofs.Members.{IsResult}
use Rattle.math_words.proofs.Fuel.{action_in}

-- linear forms of vectors
pub record IsForm (K : Field) (p : Vector K → K.Carrier) : Type 0 where
  pub of_plus : (x y : Vector K) → p (vplus K x y) ≡ K.plus (p x) (p y)
  pub of_scale : (c : K.Carrier) (x : Vector K) → p (scale K c x) ≡ K.times c (p x)
  pub of_zero : p (vzero K) ≡ K.nought

module _ (K : Field) where
  pub exchange_sums : (a b c d : K.Carrier) → K.plus (K.plus a b) (K.plus c d) ≡ K.plus (K.plus a c) (K.plus b d)
  exchange_sums a b c d = K.plus_assoc a b _ ∙ ap (K.plus a) (plus_left_comm K b c d) ∙ sym (K.plus_assoc a c _)

  pub form_plus : (p q : Vector K → K.Carrier) → IsForm K p → IsForm K q → IsForm K (λ x. K.plus (p x) (q x))
  form_plus p q h k = record {
    of_plus = λ x y. ap₂ K.plus (h.of_plus x y) (k.of_plus x y) ∙ exchange_sums _ _ _ _;
    of_scale = λ c x. ap₂ K.plus (h.of_scale c x) (k.of_scale c x) ∙ sym (K.times-plus c _ _);
    of_zero = ap₂ K.plus h.of_zero k.of_zero ∙ K.plus-nought _;
  }

  pub form_times : (a : K.Carrier) (p : Vector K → K.Carrier) → IsForm K p → IsForm K (λ x. K.times a (p x))
  form_times a p h = record {
    of_plus = λ x y. ap (K.times a) (h.of_plus x y) ∙ K.times-plus a _ _;
    of_scale = λ c x. ap (K.times a) (h.of_scale c x) ∙ times_left_comm K a c _;
    of_zero = ap (K.times a) h.of_zero ∙ times-nought K a;
  }

  pub form_same : (T : Table K) (s : Parity) (p q : Vector K → K.Carrier) → IsForm K p → IsForm K q →
      ((i : ℕ) → i < length T.basis → parity_at T i ≡ s → p (place K i) ≡ q (place K i)) → (x : Vector K) → IsIn K T s x → p x ≡ q x
  form_same T s p q h k same =
      by_part K T s (λ x. p x ≡ q x) (h.of_zero ∙ sym k.of_zero) (λ x y e d. h.of_plus x y ∙ ap₂ K.plus e d ∙ sym (k.of_plus x y))
      (λ c x e. h.of_scale c x ∙ ap (K.times c) e ∙ sym (k.of_scale c x)) same

  pub plus_space : (g h : Form K) → IsSpace K (λ x. x (λ z. K.plus (g z) (h z)) ≡ K.plus (x g) (x h))
  plus_space g h = record {
    none = sym (K.plus-nought K.nought);
    plus = λ x y p q. ap₂ K.plus p q ∙ exchange_sums _ _ _ _;
    times = λ c x p. ap (K.times c) p ∙ K.times-plus c _ _;
  }

  pub times_space : (a : K.Carrier) (g : Form K) → IsSpace K (λ x. x (λ z. K.times a (g z)) ≡ K.times a (x g))
  times_space a g = record {
    none = sym (times-nought K a);
    plus = λ x y p q. ap₂ K.plus p q ∙ sym (K.times-plus a _ _);
    times = λ c x p. ap (K.times c) p ∙ times_left_comm K c a _;
  }

module _ (K : Field) (T : Table K) where
  pub acts_form : (w : Word) (f : Form K) → IsForm K (λ x. acts K T x w f)
  unfolding acts
  acts_form w f = record {
    of_plus = λ x y. product-vplus K (length T.basis) _ x y;
    of_scale = λ c x. product-scale K (length T.basis) c _ x;
    of_zero = product-vzero K (length T.basis) _;
  }

  pub acts_place : (i : ℕ) (w : Word) (f : Form K) → i < length T.basis → acts K T (place K i) w f ≡ action K T i w f
  unfolding acts
  acts_place i w f l =
      product_one K (length T.basis) i _ (place K i) l (λ t m d. ap (K.times _) (place_other K i t (λ e. d (sym e))) ∙ times-nought K _)
      ∙ ap (K.times (action K T i w f)) (place_same K i) ∙ K.times-unit _

module _ (K : Field) (P : Presentation K.Carrier) (T : Table K) (law : ObeysLaw K P T) where
  -- what holds at each word of what each b_t gives holds of a combination of them
  pub acts_in : (S : Value K → Type 0) → IsSpace K S → (x : Vector K) (w : Word) → IsOrdered T w → (y : Word → Value K) →
      ((t : ℕ) (z : Word) → t < length T.basis → IsResult K T t w z → S (y z)) → S (λ f. acts K T x w (λ z. y z f))
  unfolding acts
  acts_in S space x w o y h = sum_in K S space (length T.basis) (λ t f. action K T t w (λ z. y z f)) x
      (λ t l. inr (action_in K P T law S space t w l o y (λ z r. h t z l r)))

  pub acts_plus : (x : Vector K) (w : Word) (g h : Form K) → IsOrdered T w → acts K T x w (λ z. K.plus (g z) (h z)) ≡ K.plus (acts K T x w g) (acts K T x w h)
  acts_plus x w g h o = acts_in (λ v. v (λ z. K.plus (g z) (h z)) ≡ K.plus (v g) (v h)) (plus_space K g h) x w o (λ z f. f z) (λ t z l r. refl)

  pub acts_times : (x : Vector K) (a : K.Carrier) (w : Word) (g : Form K) → IsOrdered T w → acts K T x w (λ z. K.times a (g z)) ≡ K.times a (acts K T x w g)
  acts_times x a w g o = acts_in (λ v. v (λ z. K.times a (g z)) ≡ K.times a (v g)) (times_space K a g) x w o (λ z f. f z) (λ t z l r. refl)

  -- the form of what acts second
  pub acts_acts_form : (y : Vector K) (w : Word) (f : Form K) → IsOrdered T w → IsForm K (λ x. acts K T y w (λ u. acts K T x u f))
  acts_acts_form y w f o = record {
    of_plus = λ x x'. ap (acts K T y w) (fun_ext (λ u. (acts_form K T u f).of_plus x x')) ∙ acts_plus y w _ _ o;
    of_scale = λ c x. ap (acts K T y w) (fun_ext (λ u. (acts_form K T u f).of_scale c x)) ∙ acts_times y c w _ o;
    of_zero = ap (acts K T y w) (fun_ext (λ u. (acts_form K T u f).of_zero ∙ sym (nought-times K K.nought))) ∙ acts_times y K.nought w (λ u. K.nought) o
        ∙ nought-times K _;
  }
