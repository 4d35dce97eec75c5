-- The action obeys brackets with an odd element on a word that begins with it, and the bracket of an element with itself.
use Rattle.std.specs.Prelude.{ℕ, suc, ◌∷◌, ◌≡◌, ◌⊎◌, ◌<◌, ◌≤◌, length, true}
use mathlib.Core.Path.{sym, refl, ap, ap₂, ◌∙◌, subst, fun_ext}
use mathlib.Core.Logic.{inl, inr}
use native.Mathlib.Omega.{arith}
use Rattle.math_fields.specs.Field.{Field}
use Rattle.math_linear.specs.Vector.{Vector, vzero, vplus, scale, place}
use Rattle.math_linear.proofs.Numbers.{unit-times}
use Rattle.math_algebra.specs.Tree.{Parity, even, odd, parity_sum, Presentation}
use Rattle.math_algebra.specs.Derives.{sign, three}
use Rattle.math_algebra.specs.Table.{Table, parity_at, bracket, IsIn, ObeysLaw}
use Rattle.math_values.proofs.Parts.{in_place, in_bracket, exchange_parts, sign_squared}
use Rattle.math_values.proofs.Sound.{jacobi_parts}
use Rattle.math_words.specs.Words.{Word, may_stand, IsOrdered}
use Rattle.math_words.specs.Action.{Form, half, acts}
use Rattle.math_words.proofs.Members.{IsResult, head_in}
use Rattle.math_words.proofs.Linear.{acts_form, acts_times}
use Rattle.math_words.proofs.Numbers.{odd_numbers, half_less, less_half, own_minus, third, exchanged, minus-one}
use Rattle.math_words.proofs.Parts.{Obeys, stands_acts, acts_less, acts_same, acts_agree, obeys_parts}
use Rattle.math_words.proofs.Deep.{ObeysThrough}

zero_third : (K : Field) (c : Vector K) → (three K ≡ K.nought → ⊥) → c ≡ vplus K (scale K (K.minus K.unit) c) (scale K (K.minus K.unit) c) → c ≡ vzero K
unfolding vplus scale vzero
zero_third K c d h = fun_ext (λ s. third K (c s) d (ap (λ v. v s) h ∙ ap₂ K.plus (minus-one K (c s)) (minus-one K (c s))))

zero_half : (K : Field) (c : Vector K) → c ≡ scale K (K.minus K.unit) c → c ≡ vzero K
unfolding scale vzero
zero_half K c h = fun_ext (λ s. own_minus K (c s) (ap (λ v. v s) h ∙ minus-one K (c s)))

module _ (K : Field) (P : Presentation K.Carrier) (T : Table K) (law : ObeysLaw K P T) where
  -- [b, [b, b]] = 0 for each odd b: by Jacobi where 3 isn't 0, and else by the law of cubes
  pub cube_zero : (i : ℕ) → i < length T.basis → parity_at T i ≡ odd → bracket K T (place K i) (bracket K T (place K i) (place K i)) ≡ vzero K
  cube_zero i l e = by_three (K.same (three K) K.nought)
    where
      i_in : IsIn K T odd (place K i)
      i_in = in_place K T i odd l e

      jacobi : bracket K T (place K i) (bracket K T (place K i) (place K i))
          ≡ vplus K (scale K (K.minus K.unit) (bracket K T (place K i) (bracket K T (place K i) (place K i))))
          (scale K (K.minus K.unit) (bracket K T (place K i) (bracket K T (place K i) (place K i))))
      jacobi =
          jacobi_parts K P T law odd odd odd _ _ _ i_in i_in i_in
          ∙ ap (λ v. vplus K v (scale K (K.minus K.unit) (bracket K T (place K i) (bracket K T (place K i) (place K i)))))
          (exchange_parts K T even odd _ _ (in_bracket K T law.graded odd odd _ _ i_in i_in) i_in)

      by_three : Dec (three K ≡ K.nought) → bracket K T (place K i) (bracket K T (place K i) (place K i)) ≡ vzero K
      by_three (yes z) = law.cubes z i l e
      by_three (no d) = zero_third K _ d jacobi

  pub even_zero : (i : ℕ) → i < length T.basis → parity_at T i ≡ even → bracket K T (place K i) (place K i) ≡ vzero K
  even_zero i l e =
      zero_half K _ (exchange_parts K T even even _ _ (in_place K T i even l e) (in_place K T i even l e))

  -- an even element with itself
  pub obeys_even : (i : ℕ) (w : Word) (f : Form K) → i < length T.basis → parity_at T i ≡ even → Obeys K T even even (place K i) (place K i) w f
  obeys_even i w f l e =
      sym
      (ap₂ K.plus (unit-times K _) (ap (λ v. acts K T v w f) (even_zero i l e) ∙ (acts_form K T w f).of_zero) ∙ K.plus-nought _)

  -- an odd element twice: half of its square
  abbrev pub IsHalf : (i : ℕ) (w : Word) (f : Form K) → Type 0
  IsHalf i w f = acts K T (place K i) w (λ u. acts K T (place K i) u f) ≡ K.times (half K) (acts K T (bracket K T (place K i) (place K i)) w f)

  pub half_obeys : (i : ℕ) (w : Word) (f : Form K) → IsHalf i w f → Obeys K T odd odd (place K i) (place K i) w f
  half_obeys i w f h = half_less K _ _ h

  pub obeys_half : (i : ℕ) (w : Word) (f : Form K) → Obeys K T odd odd (place K i) (place K i) w f → IsHalf i w f
  obeys_half i w f h = less_half K _ _ h

  -- before a word where it may stand
  pub half_stand : (i : ℕ) (w : Word) (f : Form K) → i < length T.basis → parity_at T i ≡ odd → may_stand T i w ≡ true → IsHalf i w f
  half_stand i w f l e h = stands_acts K P T law i w (λ u. acts K T (place K i) u f) l h ∙ acts_same K P T law i w f l e

  -- before a word that begins with it, by [b, [b, b]] = 0
  pub half_again : (i : ℕ) (v : Word) (f : Form K) → i < length T.basis → parity_at T i ≡ odd → IsOrdered T (i ∷ v) → ObeysThrough K P T law (length v) →
      IsHalf i (i ∷ v) f
  half_again i v f l e o hyp =
      acts_same K P T law i v (λ u. acts K T (place K i) u f) l e
      ∙ ap (K.times (half K))
      (obeys_parts K P T law v rest (hyp v rest (omega arith)) odd even (place K i) (bracket K T (place K i) (place K i)) i_in
      (in_bracket K T law.graded odd odd _ _ i_in i_in) f
      ∙ ap₂ K.plus (unit-times K _ ∙ stands_acts K P T law i v (λ u. acts K T (bracket K T (place K i) (place K i)) u f) l (head_in K T o).1)
      (ap (λ x. acts K T x v f) (cube_zero i l e) ∙ (acts_form K T v f).of_zero)
      ∙ K.plus-nought _)
    where
      i_in : IsIn K T odd (place K i)
      i_in = in_place K T i odd l e

      rest : IsOrdered T v
      rest = (head_in K T o).2

  -- a greater element and an odd one that the word begins with
  pub obeys_odd : (i j : ℕ) (v : Word) (f : Form K) → i < length T.basis → j < length T.basis → j < i → parity_at T j ≡ odd → IsOrdered T (j ∷ v) →
      ObeysThrough K P T law (length v) →
      Obeys K T (parity_at T i) odd (place K i) (place K j) (j ∷ v) f
  obeys_odd i j v f li lj d e o hyp = first_side ∙ odd_numbers K s q z g h jacobi ∙ sym second_side
    where
      s : Parity
      s = parity_at T i

      rest : IsOrdered T v
      rest = (head_in K T o).2

      stands : may_stand T j v ≡ true
      stands = (head_in K T o).1

      i_in : IsIn K T (parity_at T i) (place K i)
      i_in = in_place K T i _ li refl

      j_in : IsIn K T odd (place K j)
      j_in = in_place K T j odd lj e

      both_in : IsIn K T (parity_sum (parity_at T i) odd) (bracket K T (place K i) (place K j))
      both_in = in_bracket K T law.graded _ _ _ _ i_in j_in

      on_rest : (s t : Parity) (x y : Vector K) → IsIn K T s x → IsIn K T t y → (f : Form K) → Obeys K T s t x y v f
      on_rest = obeys_parts K P T law v rest (hyp v rest (omega arith))

      q : K.Carrier
      q = acts K T (place K i) v (λ p. acts K T (bracket K T (place K j) (place K j)) p f)

      z : K.Carrier
      z = acts K T (bracket K T (place K j) (bracket K T (place K i) (place K j))) v f

      g : K.Carrier
      g = acts K T (bracket K T (place K i) (place K j)) (j ∷ v) f

      h : K.Carrier
      h = acts K T (bracket K T (place K i) (bracket K T (place K j) (place K j))) v f

      jacobi : h ≡ K.plus (K.times (K.minus (sign K (parity_sum s odd) odd)) z) (K.times (sign K s odd) z)
      jacobi =
          ap (λ w. acts K T w v f)
          (jacobi_parts K P T law s odd odd _ _ _ i_in j_in j_in
          ∙ ap (λ w. vplus K w (scale K (sign K s odd) (bracket K T (place K j) (bracket K T (place K i) (place K j)))))
          (exchange_parts K T (parity_sum s odd) odd _ _ both_in j_in))
          ∙ (acts_form K T v f).of_plus _ _ ∙ ap₂ K.plus ((acts_form K T v f).of_scale _ _) ((acts_form K T v f).of_scale _ _)

      first_side : acts K T (place K j) (j ∷ v) (λ p. acts K T (place K i) p f) ≡ K.times (half K) (K.plus (K.times (sign K s even) q) h)
      first_side =
          acts_same K P T law j v (λ p. acts K T (place K i) p f) lj e
          ∙ ap (K.times (half K)) (on_rest s even (place K i) (bracket K T (place K j) (place K j)) i_in (in_bracket K T law.graded odd odd _ _ j_in j_in) f)

      -- b_j twice on the words of b_i on v
      at_word : (p : Word) → IsResult K T i v p → (length p ≤ length v) ⊎
          ((length p ≡ suc (length v)) × ((k : ℕ) → k < i → may_stand T k v ≡ true → may_stand T k p ≡ true)) → IsHalf j p f
      at_word p r (inl m) = obeys_half j p f (subst (λ t. Obeys K T t t (place K j) (place K j) p f) e (hyp p r.ordered m j j lj lj f))
      at_word p r (inr m) = half_stand j p f lj e (m.1 j d stands)

      twice : acts K T (place K i) v (λ p. acts K T (place K j) p (λ u. acts K T (place K j) u f)) ≡ K.times (half K) q
      twice = acts_agree K P T law i v _ _ li rest (λ p r. at_word p r r.size) ∙ acts_times K P T law (place K i) (half K) v _ rest

      second_side : K.plus (K.times (sign K s odd) (acts K T (place K i) (j ∷ v) (λ p. acts K T (place K j) p f))) g
          ≡ K.plus (K.times (sign K s odd) (K.plus (K.times (sign K s odd) (K.times (half K) q)) (K.plus (K.times (sign K odd (parity_sum s odd)) g) z))) g
      second_side =
          ap (λ m. K.plus (K.times (sign K s odd) m) g)
          (acts_less K P T law i j v (λ p. acts K T (place K j) p f) li o d
          ∙ ap₂ K.plus (ap₂ (λ t m. K.times (sign K s t) m) e twice)
          (on_rest odd (parity_sum s odd) (place K j) (bracket K T (place K i) (place K j)) j_in both_in f
          ∙ ap (λ m. K.plus (K.times (sign K odd (parity_sum s odd)) m) z)
          (stands_acts K P T law j v (λ p. acts K T (bracket K T (place K i) (place K j)) p f) lj stands)))

  -- the members exchanged
  pub obeys_exchanged : (s t : Parity) (x y : Vector K) (w : Word) (f : Form K) → IsIn K T s x → IsIn K T t y → Obeys K T s t x y w f → Obeys K T t s y x w f
  obeys_exchanged s t x y w f p q h =
      exchanged K (sign K s t) (sign K t s) _ _ _ (sign_squared K s t) h
      ∙ ap (K.plus _) (sym (ap (λ v. acts K T v w f) (exchange_parts K T t s y x q p) ∙ (acts_form K T w f).of_scale _ _))
