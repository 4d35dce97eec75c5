-- The computed straight form is the straight form, one for equal polys; and the product gives what its factors give one after the other.
use Rattle.std.proofs.Common.{ℕ, ◌+◌, ◌≤◌, ◌≡◌, [], ◌∷◌, ◌++◌, refl, sym, ap, ap₂, ◌∙◌, arith}
use Rattle.math_fields.specs.Field.{Field}
use Rattle.math_linear.proofs.Numbers.{nought-plus, times-nought}
use Rattle.math_algebra.specs.Tree.{Presentation}
use Rattle.math_algebra.specs.Table.{Table, ObeysLaw}
use Rattle.math_words.specs.Words.{Word, IsWord, word_weight}
use Rattle.math_words.specs.Words.IsOrdered.{ordered_none}
use Rattle.math_words.specs.Action.{Form, straight}
use Rattle.math_words.specs.Polys.{Poly, poly_value, IsPolyThrough}
use Rattle.math_words.proofs.Letters.{letters_in}
use Rattle.math_words.proofs.Main.{action_is_straight, one_straight_form}
use Rattle.plain_envelope.specs.Listing.{IsWeighted}
use Rattle.plain_envelope.specs.Straight.{words_through, straightened, times_word, poly_product}
use Rattle.plain_envelope.specs.Laws.{StraightenedIsStraight, OneStraightened, ProductOfValues}
use Rattle.plain_envelope.proofs.Straight.{spread, spread_space, terms_value, at_number, words_ascend, terms_ascend, terms_ordered, word_spread}

module _ (K : Field) (P : Presentation K.Carrier) (T : Table K) (law : ObeysLaw K P T) (weights : IsWeighted T) where
  word_straight : (d : ℕ) (f : Form K) (w : Word) → IsWord T w → word_weight T w ≤ d →
      straight K T w f ≡ spread K (λ g. straight K T w g) (words_through T d) f
  unfolding word_weight
  word_straight d f w o l =
      letters_in K P T law (λ x. x f ≡ spread K x (words_through T d) f) (spread_space K (words_through T d) f) w [] o ordered_none (λ u g. g u)
      (λ u p e. word_spread K T weights d f u p (let h : word_weight T u ≡ word_weight T w + 0 = e in omega arith))

  poly_spread : (d : ℕ) (f : Form K) (u : Poly K) → IsPolyThrough K T d u →
      poly_value K u (λ w. straight K T w f) ≡ spread K (λ g. poly_value K u (λ w. straight K T w g)) (words_through T d) f
  unfolding poly_value
  poly_spread d f [] h = (spread_space K (words_through T d) f).none
  poly_spread d f (m ∷ u) h =
      (spread_space K (words_through T d) f).plus _ _
      ((spread_space K (words_through T d) f).times m.1 (λ g. straight K T m.0 g) (word_straight d f m.0 h.0 h.1)) (poly_spread d f u h.2)

  pub straightened_value : (d : ℕ) (u : Poly K) → IsPolyThrough K T d u → (f : Form K) →
      poly_value K (straightened K T d u) f ≡ poly_value K u (λ w. straight K T w f)
  unfolding straightened
  straightened_value d u h f =
      terms_value K (λ g. poly_value K u (λ w. straight K T w g)) (words_through T d) f ∙ sym (poly_spread d f u h)

pub straightened_is_straight : (K : Field) → StraightenedIsStraight K
unfolding straightened
straightened_is_straight K P T law weights d u h =
    (action_is_straight K P T law d u (straightened K T d u) h
    (terms_ascend K T weights _ (words_through T d) (words_ascend K T weights d))
    (terms_ordered K T weights _ (words_through T d) (λ k l. (at_number K T weights d k l).ordered))).1 (straightened_value K P T law weights d u h)

pub one_straightened : (K : Field) → OneStraightened K
one_straightened K P T law weights d u v h k =
    one_straight_form K P T law d u v _ _ (straightened_is_straight K P T law weights d u h) (straightened_is_straight K P T law weights d v k)

joined_value : (K : Field) (u v : Poly K) (f : Form K) → poly_value K (u ++ v) f ≡ K.plus (poly_value K u f) (poly_value K v f)
unfolding poly_value
joined_value K [] v f = sym (nought-plus K _)
joined_value K (m ∷ u) v f = ap (K.plus _) (joined_value K u v f) ∙ sym (K.plus_assoc _ _ _)

times_value : (K : Field) (w : Word) (c : K.Carrier) (v : Poly K) (f : Form K) →
    poly_value K (times_word K w c v) f ≡ K.times c (poly_value K v (λ z. f (w ++ z)))
unfolding poly_value
times_value K w c [] f = sym (times-nought K c)
times_value K w c (m ∷ v) f = ap₂ K.plus (K.times_assoc c _ _) (times_value K w c v f) ∙ sym (K.times-plus c _ _)

pub product_of_values : (K : Field) → ProductOfValues K
unfolding poly_value poly_product
product_of_values K [] v f = refl
product_of_values K (m ∷ u) v f =
    joined_value K (times_word K m.0 m.1 v) (poly_product K u v) f ∙ ap₂ K.plus (times_value K m.0 m.1 v f) (product_of_values K u v f)
