-- Where the action obeys the bracket of each two basis elements on a word, it does so for all vectors of a parity; and the action by vectors.
use Rattle.std.specs.Prelude.{ℕ, ◌∷◌, ◌≡◌, ◌<◌, length, true}
use mathlib.Core.Path.{sym, ap, ap₂, ◌∙◌, subst, fun_ext}
use Rattle.math_fields.specs.Field.{Field}
use Rattle.math_linear.specs.Vector.{Vector, place}
use Rattle.math_linear.specs.Linear.{IsLinear}
use Rattle.math_linear.proofs.Linear.{linear_vzero}
use Rattle.math_algebra.specs.Tree.{Parity, odd, Presentation}
use Rattle.math_algebra.specs.Derives.{sign}
use Rattle.math_algebra.specs.Table.{Table, parity_at, bracket, IsIn, ObeysLaw}
use Rattle.math_values.proofs.Products.{bracket_linear_left, bracket_linear_right, bracket_places}
use Rattle.math_words.specs.Words.{Word, may_stand, IsOrdered}
use Rattle.math_words.specs.Action.{Form, half, action, acts}
use Rattle.math_words.proofs.Members.{IsResult, head_in}
use Rattle.math_words.proofs.Fuel.{action_stand, action_less, action_same, action_agree}
use Rattle.math_words.proofs.Linear.{IsForm, form_plus, form_times, form_same, acts_form, acts_place, acts_acts_form}

-- [x, y] acts as x y - (-1)^(st) y x
abbrev pub Obeys : (K : Field) → Table K → Parity → Parity → Vector K → Vector K → Word → Form K → Type 0
Obeys K T s t x y w f =
    acts K T y w (λ u. acts K T x u f) ≡ K.plus (K.times (sign K s t) (acts K T x w (λ u. acts K T y u f))) (acts K T (bracket K T x y) w f)

abbrev pub ObeysPlaces : (K : Field) → Table K → Word → Type 0
ObeysPlaces K T w = (i j : ℕ) → i < length T.basis → j < length T.basis → (f : Form K) → Obeys K T (parity_at T i) (parity_at T j) (place K i) (place K j) w f

pub form_after : (K : Field) (p : Vector K → K.Carrier) (f : Vector K → Vector K) → IsForm K p → IsLinear K f → IsForm K (λ x. p (f x))
form_after K p f h k = record {
  of_plus = λ x y. ap p (k.of_plus x y) ∙ h.of_plus _ _;
  of_scale = λ c x. ap p (k.of_scale c x) ∙ h.of_scale c _;
  of_zero = ap p (linear_vzero K f k) ∙ h.of_zero;
}

module _ (K : Field) (P : Presentation K.Carrier) (T : Table K) (law : ObeysLaw K P T) where
  pub stands_acts : (j : ℕ) (w : Word) (f : Form K) → j < length T.basis → may_stand T j w ≡ true → acts K T (place K j) w f ≡ f (j ∷ w)
  stands_acts j w f l h = acts_place K T j w f l ∙ action_stand K P T law j w f h

  pub acts_less : (i j : ℕ) (w : Word) (f : Form K) → i < length T.basis → IsOrdered T (j ∷ w) → j < i →
      acts K T (place K i) (j ∷ w) f
      ≡ K.plus (K.times (sign K (parity_at T i) (parity_at T j)) (acts K T (place K i) w (λ u. acts K T (place K j) u f)))
      (acts K T (bracket K T (place K i) (place K j)) w f)
  acts_less i j w f l o d =
      acts_place K T i (j ∷ w) f l ∙ action_less K P T law i j w f l o d
      ∙ ap₂ (λ a x. K.plus (K.times (sign K (parity_at T i) (parity_at T j)) a) (acts K T x w f))
      (sym (acts_place K T i w _ l ∙ ap (action K T i w) (fun_ext (λ u. acts_place K T j u f (head_in K T o).0))))
      (sym (bracket_places K T i j l (head_in K T o).0))

  pub acts_same : (i : ℕ) (w : Word) (f : Form K) → i < length T.basis → parity_at T i ≡ odd →
      acts K T (place K i) (i ∷ w) f ≡ K.times (half K) (acts K T (bracket K T (place K i) (place K i)) w f)
  acts_same i w f l h =
      acts_place K T i (i ∷ w) f l ∙ action_same K P T law i w f h ∙ ap (λ x. K.times (half K) (acts K T x w f)) (sym (bracket_places K T i i l l))

  pub acts_agree : (i : ℕ) (w : Word) (g h : Form K) → i < length T.basis → IsOrdered T w → ((z : Word) → IsResult K T i w z → g z ≡ h z) →
      acts K T (place K i) w g ≡ acts K T (place K i) w h
  acts_agree i w g h l o same = acts_place K T i w g l ∙ action_agree K P T law i w g h l o same ∙ sym (acts_place K T i w h l)

  pub obeys_parts : (w : Word) → IsOrdered T w → ObeysPlaces K T w → (s t : Parity) (x y : Vector K) → IsIn K T s x → IsIn K T t y → (f : Form K) →
      Obeys K T s t x y w f
  obeys_parts w o h s t x y p q f =
      form_same K T t (λ y. acts K T y w (λ u. acts K T x u f))
      (λ y. K.plus (K.times (sign K s t) (acts K T x w (λ u. acts K T y u f))) (acts K T (bracket K T x y) w f)) (acts_form K T w (λ u. acts K T x u f))
      (form_plus K _ _ (form_times K _ _ (acts_acts_form K P T law x w f o)) (form_after K _ _ (acts_form K T w f) (bracket_linear_right K T x))) second y q
    where
      second : (j : ℕ) → j < length T.basis → parity_at T j ≡ t → Obeys K T s t x (place K j) w f
      second j l e =
          form_same K T s (λ x. acts K T (place K j) w (λ u. acts K T x u f))
          (λ x. K.plus (K.times (sign K s t) (acts K T x w (λ u. acts K T (place K j) u f))) (acts K T (bracket K T x (place K j)) w f))
          (acts_acts_form K P T law (place K j) w f o)
          (form_plus K _ _ (form_times K _ _ (acts_form K T w (λ u. acts K T (place K j) u f)))
          (form_after K _ _ (acts_form K T w f) (bracket_linear_left K T (place K j))))
          (λ i k d. subst (λ a. Obeys K T a t (place K i) (place K j) w f) d
          (subst (λ a. Obeys K T (parity_at T i) a (place K i) (place K j) w f) e (h i j k l f))) x p
