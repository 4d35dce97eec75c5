-- Polys with the same coefficients give the same for each form.
use Rattle.std.specs.Prelude.{ℕ, zero, suc, [], ◌∷◌, ◌++◌, ◌≡◌, ◌≤◌, length, Bool, true, false, cond, map}
use mathlib.Core.Path.{sym, refl, ap, ap₂, ◌∙◌, subst}
use native.Mathlib.Omega.{arith}
use Rattle.math_fields.specs.Field.{Field}
use Rattle.math_linear.proofs.Numbers.{plus_cancel, nought-plus, nought-times, times-nought, plus_left_comm, minus-times, minus-plus, minus-nought}
use Rattle.math_words.specs.Words.{Word, same_word}
use Rattle.math_words.specs.Action.{Form}
use Rattle.math_words.specs.Polys.{Poly, poly_value, at_word}
use Rattle.math_words.specs.Laws.{CoefficientsDecide}
use Rattle.math_words.proofs.Orders.{same_itself, same_words}

module _ (K : Field) where
  nothing : (f : Form K) → poly_value K [] f ≡ K.nought
  unfolding poly_value
  nothing f = refl

  -- the terms of other words
  unfoldable without : Word → Poly K → Poly K
  without w [] = []
  without w (m ∷ u) = cond (same_word w m.0) (without w u) (m ∷ without w u)

  shorter : (w : Word) (u : Poly K) → length (without w u) ≤ length u
  unfolding without
  shorter w [] = omega arith
  shorter w (m ∷ u) = by_test (same_word w m.0) (shorter w u)
    where
      by_test : (b : Bool) → length (without w u) ≤ length u → length (cond b (without w u) (m ∷ without w u)) ≤ length (m ∷ u)
      by_test true h = omega arith
      by_test false h = omega arith

  first_out : (m : Word × K.Carrier) (u : Poly K) → without m.0 (m ∷ u) ≡ without m.0 u
  unfolding without
  first_out m u = ap (λ b. cond b (without m.0 u) (m ∷ without m.0 u)) (same_itself m.0)

  split : (w : Word) (u : Poly K) (f : Form K) → poly_value K u f ≡ K.plus (K.times (poly_value K u (at_word K w)) (f w)) (poly_value K (without w u) f)
  unfolding poly_value without at_word
  split w [] f = sym (ap (λ a. K.plus a K.nought) (nought-times K (f w)) ∙ K.plus-nought _)
  split w (m ∷ u) f = by_test (same_word w m.0) refl (split w u f)
    where
      c : K.Carrier
      c = poly_value K u (at_word K w)

      rest : K.Carrier
      rest = poly_value K (without w u) f

      spread : (a : K.Carrier) → K.times (K.plus a c) (f w) ≡ K.plus (K.times a (f w)) (K.times c (f w))
      spread a = K.times_comm _ _ ∙ K.times-plus (f w) a c ∙ ap₂ K.plus (K.times_comm _ _) (K.times_comm _ _)

      by_test : (b : Bool) → same_word w m.0 ≡ b → poly_value K u f ≡ K.plus (K.times c (f w)) rest →
          K.plus (K.times m.1 (f m.0)) (poly_value K u f)
          ≡ K.plus (K.times (K.plus (K.times m.1 (cond (same_word w m.0) K.unit K.nought)) c) (f w))
          (poly_value K (cond (same_word w m.0) (without w u) (m ∷ without w u)) f)
      by_test true e h =
          ap (K.plus (K.times m.1 (f m.0))) h ∙ sym (K.plus_assoc _ _ _)
          ∙ ap (λ v. K.plus (K.plus (K.times m.1 (f v)) (K.times c (f w))) rest) (sym (same_words w m.0 e))
          ∙ ap (λ a. K.plus a rest) (sym (spread m.1))
          ∙ ap (λ a. K.plus (K.times (K.plus a c) (f w)) rest) (sym (K.times-unit m.1))
          ∙ ap (λ b. K.plus (K.times (K.plus (K.times m.1 (cond b K.unit K.nought)) c) (f w)) (poly_value K (cond b (without w u) (m ∷ without w u)) f)) (sym e)
      by_test false e h =
          ap (K.plus (K.times m.1 (f m.0))) h ∙ plus_left_comm K _ _ _
          ∙ ap (λ a. K.plus (K.times a (f w)) (K.plus (K.times m.1 (f m.0)) rest)) (sym (ap (λ a. K.plus a c) (times-nought K m.1) ∙ nought-plus K c))
          ∙ ap (λ b. K.plus (K.times (K.plus (K.times m.1 (cond b K.unit K.nought)) c) (f w)) (poly_value K (cond b (without w u) (m ∷ without w u)) f)) (sym e)

  -- no coefficient, no value
  none : (n : ℕ) (u : Poly K) → length u ≤ n → ((w : Word) → poly_value K u (at_word K w) ≡ K.nought) → (f : Form K) → poly_value K u f ≡ K.nought
  none n [] l h f = nothing f
  none zero (m ∷ u) l h f = absurd (impossible m u l)
    where
      impossible : (m : Word × K.Carrier) (u : Poly K) → length (m ∷ u) ≤ 0 → ⊥
      impossible m u l = omega arith
  none (suc n) (m ∷ u) l h f =
      split m.0 (m ∷ u) f ∙ ap₂ K.plus (ap (λ a. K.times a (f m.0)) (h m.0) ∙ nought-times K _)
      (none n (without m.0 (m ∷ u)) fewer (λ w. plus_cancel K _ _ K.nought (K.plus-nought _ ∙ sym (others w) ∙ sym (K.plus-nought _))) f)
      ∙ K.plus-nought _
    where
      fewer : length (without m.0 (m ∷ u)) ≤ n
      fewer = subst (λ v. length v ≤ n) (sym (first_out m u)) (bound (shorter m.0 u) l)
        where
          bound : length (without m.0 u) ≤ length u → length (m ∷ u) ≤ suc n → length (without m.0 u) ≤ n
          bound a b = omega arith

      others : (w : Word) → K.nought ≡ poly_value K (without m.0 (m ∷ u)) (at_word K w)
      others w =
          sym (h w) ∙ split m.0 (m ∷ u) (at_word K w)
          ∙ ap (λ a. K.plus (K.times a (at_word K w m.0)) (poly_value K (without m.0 (m ∷ u)) (at_word K w))) (h m.0)
          ∙ ap (λ a. K.plus a (poly_value K (without m.0 (m ∷ u)) (at_word K w))) (nought-times K _) ∙ nought-plus K _

  negated : Word × K.Carrier → Word × K.Carrier
  negated m = (m.0, K.minus m.1)

  joined : (u v : Poly K) (f : Form K) → poly_value K (u ++ v) f ≡ K.plus (poly_value K u f) (poly_value K v f)
  unfolding poly_value
  joined [] v f = sym (nought-plus K _)
  joined (m ∷ u) v f = ap (K.plus _) (joined u v f) ∙ sym (K.plus_assoc _ _ _)

  turned : (v : Poly K) (f : Form K) → poly_value K (map negated v) f ≡ K.minus (poly_value K v f)
  unfolding poly_value negated
  turned [] f = sym (minus-nought K)
  turned (m ∷ v) f = ap₂ K.plus (minus-times K m.1 (f m.0)) (turned v f) ∙ sym (minus-plus K _ _)

pub coefficients_decide : (K : Field) → CoefficientsDecide K
coefficients_decide K u v = (to, from)
  where
    less : (f : Form K) → poly_value K (u ++ map (negated K) v) f ≡ K.plus (poly_value K u f) (K.minus (poly_value K v f))
    less f = joined K u _ f ∙ ap (K.plus _) (turned K v f)

    to : ((w : Word) → poly_value K u (at_word K w) ≡ poly_value K v (at_word K w)) → (f : Form K) → poly_value K u f ≡ poly_value K v f
    to h f =
        plus_cancel K _ _ (K.minus (poly_value K v f))
        (sym (less f) ∙ none K (length (u ++ map (negated K) v)) (u ++ map (negated K) v) (omega arith)
        (λ w. less (at_word K w) ∙ ap (λ a. K.plus a (K.minus (poly_value K v (at_word K w)))) (h w) ∙ K.plus-minus (poly_value K v (at_word K w))) f
        ∙ sym (K.plus-minus _))

    from : ((f : Form K) → poly_value K u f ≡ poly_value K v f) → (w : Word) → poly_value K u (at_word K w) ≡ poly_value K v (at_word K w)
    from h w = h (at_word K w)
