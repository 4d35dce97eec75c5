-- The theorems on polys and their straight forms.
use Rattle.std.specs.Prelude.{ℕ, [], ◌∷◌, ◌≡◌, length, cond}
use mathlib.Core.Path.{sym, refl, ap, ap₂, ◌∙◌, subst, fun_ext}
use Rattle.math_fields.specs.Field.{Field}
use Rattle.math_linear.specs.Vector.{Vector}
use Rattle.math_linear.specs.Kernel.{product_sum}
use Rattle.math_linear.proofs.Kernel.{product_one}
use Rattle.math_linear.proofs.Numbers.{plus_cancel, minus_minus, minus-plus, nought-times, unit-times}
use Rattle.math_algebra.specs.Tree.{Presentation}
use Rattle.math_algebra.specs.Table.{Table, ObeysLaw}
use Rattle.math_words.specs.Words.{Word}
use Rattle.math_words.specs.Words.IsOrdered.{ordered_none, ordered_more}
use Rattle.math_words.specs.Action.{Form, straight}
use Rattle.math_words.specs.Envelope.{Value, IsNothing, AreEqual}
use Rattle.math_words.specs.Envelope.IsNothing.{nothing_none, nothing_sum, nothing_multiple}
use Rattle.math_words.specs.Polys.{Poly, poly_value, at_word, IsPolyThrough, IsOrderedPoly, IsStraight}
use Rattle.math_words.specs.Laws.{OneStraightForm, ActionIsStraight, OrderedWordsAreFree, TableIsWithin}
use Rattle.math_words.proofs.Letters.{straight_ordered, nothing_straight}
use Rattle.math_words.proofs.Equal.{equals_straight}
use Rattle.math_words.proofs.Numbers.{minus-one, less_less, less_plus, times_less}
use Rattle.math_words.proofs.Members.{stand_none}
use Rattle.math_words.proofs.Fuel.{product_same}
use Rattle.math_words.proofs.Orders.{same_itself, same_other, one_list}

module _ (K : Field) (T : Table K) (d : ℕ) where
  pub equal_same : (x y : Value K) → ((f : Form K) → x f ≡ y f) → AreEqual K T d x y
  equal_same x y e = subst (IsNothing K T d) (fun_ext (λ f. sym (ap (λ a. K.plus a (K.minus (y f))) (e f) ∙ K.plus-minus _))) nothing_none

  pub equal_back : (x y : Value K) → AreEqual K T d x y → AreEqual K T d y x
  equal_back x y h =
      subst (IsNothing K T d)
      (fun_ext (λ f. minus-one K _ ∙ minus-plus K _ _ ∙ ap (K.plus (K.minus (x f))) (minus_minus K _) ∙ K.plus_comm _ _))
      (nothing_multiple (K.minus K.unit) _ h)

  pub equal_then : (x y z : Value K) → AreEqual K T d x y → AreEqual K T d y z → AreEqual K T d x z
  equal_then x y z h k = subst (IsNothing K T d) (fun_ext (λ f. less_less K (x f) (y f) (z f))) (nothing_sum _ _ h k)

module _ (K : Field) (P : Presentation K.Carrier) (T : Table K) (law : ObeysLaw K P T) where
  -- equal values straighten to one
  pub equal_straight : (d : ℕ) (x y : Value K) → AreEqual K T d x y → (f : Form K) → x (λ w. straight K T w f) ≡ y (λ w. straight K T w f)
  equal_straight d x y h f = plus_cancel K _ _ _ (nothing_straight K P T law d _ h f ∙ sym (K.plus-minus _))

  pub ordered_straight : (r : Poly K) → IsOrderedPoly K T r → (f : Form K) → poly_value K r (λ w. straight K T w f) ≡ poly_value K r f
  unfolding poly_value
  ordered_straight [] o f = refl
  ordered_straight (m ∷ r) o f = ap₂ (λ a b. K.plus (K.times m.1 a) b) (straight_ordered K P T law m.0 f o.0) (ordered_straight r o.1 f)

  pub poly_straight : (d : ℕ) (u : Poly K) → IsPolyThrough K T d u → AreEqual K T d (poly_value K u) (λ f. poly_value K u (λ w. straight K T w f))
  unfolding poly_value
  poly_straight d [] h = equal_same K T d _ _ (λ f. refl)
  poly_straight d (m ∷ u) h =
      subst (IsNothing K T d)
      (fun_ext (λ f. ap (λ a. K.plus a (K.plus (poly_value K u f) (K.minus (poly_value K u (λ w. straight K T w f)))))
      (times_less K m.1 (f m.0) (straight K T m.0 f)) ∙ less_plus K _ _ _ _))
      (nothing_sum _ _ (nothing_multiple m.1 _ (equals_straight K P T law m.0 d h.0 h.1)) (poly_straight d u h.2))

pub one_straight_form : (K : Field) → OneStraightForm K
one_straight_form K P T law d u v r q a b = (to, from)
  where
    to : AreEqual K T d (poly_value K u) (poly_value K v) → r ≡ q
    to h =
        one_list K T r q a.ascending b.ascending
        (λ f. sym (ordered_straight K P T law r a.ordered f)
        ∙ equal_straight K P T law d _ _
        (equal_then K T d _ _ _ (equal_back K T d _ _ a.equal) (equal_then K T d _ _ _ h b.equal)) f
        ∙ ordered_straight K P T law q b.ordered f)

    from : r ≡ q → AreEqual K T d (poly_value K u) (poly_value K v)
    from e = equal_then K T d _ _ _ a.equal (equal_then K T d _ _ _ (equal_same K T d _ _ (λ f. ap (λ p. poly_value K p f) e)) (equal_back K T d _ _ b.equal))

pub action_is_straight : (K : Field) → ActionIsStraight K
action_is_straight K P T law d u r through ascending ordered = (to, from)
  where
    to : IsStraight K T d u r → (f : Form K) → poly_value K r f ≡ poly_value K u (λ w. straight K T w f)
    to h f = sym (ordered_straight K P T law r ordered f) ∙ sym (equal_straight K P T law d _ _ h.equal f)

    from : ((f : Form K) → poly_value K r f ≡ poly_value K u (λ w. straight K T w f)) → IsStraight K T d u r
    from h = record {
      ascending = ascending;
      ordered = ordered;
      equal = equal_then K T d _ _ _ (poly_straight K P T law d u through) (equal_same K T d _ _ (λ f. sym (h f)));
    }

pub ordered_words_are_free : (K : Field) → OrderedWordsAreFree K
ordered_words_are_free K P T law d u ordered h f = sym (ordered_straight K P T law u ordered f) ∙ equal_straight K P T law d _ _ h f

pub table_is_within : (K : Field) → TableIsWithin K
unfolding at_word
table_is_within K P T law d x y h t l = sym (alone x) ∙ sums ∙ alone y
  where
    sums : product_sum K (length T.basis) (λ s. at_word K (t ∷ []) (s ∷ [])) x ≡ product_sum K (length T.basis) (λ s. at_word K (t ∷ []) (s ∷ [])) y
    sums = sym (stay x) ∙ equal_straight K P T law d _ _ h (at_word K (t ∷ [])) ∙ stay y
      where
        stay : (x : Vector K) → product_sum K (length T.basis) (λ s. straight K T (s ∷ []) (at_word K (t ∷ []))) x
            ≡ product_sum K (length T.basis) (λ s. at_word K (t ∷ []) (s ∷ [])) x
        stay x =
            product_same K _ _ _ x
            (λ s k. straight_ordered K P T law (s ∷ []) (at_word K (t ∷ [])) (ordered_more s [] k (stand_none K T s) ordered_none))

    other : (s : ℕ) → (s ≡ t → ⊥) → at_word K (t ∷ []) (s ∷ []) ≡ K.nought
    other s d = ap (λ b. cond b K.unit K.nought) (same_other (t ∷ []) (s ∷ []) (λ e. d (sym (ap (first t) e))))
      where
        first : ℕ → Word → ℕ
        first k [] = k
        first k (i ∷ w) = i

    itself : at_word K (t ∷ []) (t ∷ []) ≡ K.unit
    itself = ap (λ b. cond b K.unit K.nought) (same_itself (t ∷ []))

    alone : (x : Vector K) → product_sum K (length T.basis) (λ s. at_word K (t ∷ []) (s ∷ [])) x ≡ x t
    alone x =
        product_one K (length T.basis) t _ x l (λ s k d. ap (λ a. K.times a (x s)) (other s d) ∙ nought-times K _)
        ∙ ap (λ a. K.times a (x t)) itself ∙ unit-times K _
