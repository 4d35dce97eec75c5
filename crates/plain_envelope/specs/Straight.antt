-- Straight forms and products of polys, computed: each ordered word with its coefficient.
--
--   led K T j f            a form at words with b_j in front, where it may stand there; 0 at the others
--   words_through T d      the ordered words of weight at most d, in their order
--   with_term              a word with its number before a poly, or the poly alone where the number is 0
--   terms K x zs           those of the words zs at which the value x has a coefficient that isn't 0, with it
--   part_value K T w u     what the action of the letters of the words of u of weight w gives on the empty word
--   straightened K T d u   what the action of the letters of u on the empty word gives, over the words of weight at most d
--   times_word w c v       c w times the poly v
--   poly_product u v       the product of two polys, word by word, not straightened
--   multiplied K T d u v   the product, straightened
use Rattle.std.specs.Prelude.{ℕ, suc, List, [], ◌∷◌, ◌++◌, ◌≡◌, map, cond, nat_eq}
use Rattle.math_fields.specs.Field.{Field}
use Rattle.math_linear.specs.Lists.{joined}
use Rattle.math_algebra.specs.Table.{Table}
use Rattle.math_words.specs.Words.{Word, word_weight, may_stand}
use Rattle.math_words.specs.Action.{Form, straight}
use Rattle.math_words.specs.Envelope.{Value}
use Rattle.math_words.specs.Polys.{Poly, poly_value, at_word}
use Rattle.plain_envelope.specs.Listing.{words_of}

abbrev pub led : (K : Field) → Table K → ℕ → Form K → Form K
led K T j f u = cond (may_stand T j u) (f (j ∷ u)) K.nought

unfoldable pub words_through : {K : Field} → Table K → ℕ → List Word
words_through T d = joined (suc d) (words_of T)

abbrev pub with_term : (K : Field) (z : Word) (c : K.Carrier) → Dec (c ≡ K.nought) → Poly K → Poly K
with_term K z c (yes e) u = u
with_term K z c (no d) u = (z, c) ∷ u

unfoldable pub terms : (K : Field) → Value K → List Word → Poly K
terms K x [] = []
terms K x (z ∷ zs) = with_term K z (x (at_word K z)) (K.same (x (at_word K z)) K.nought) (terms K x zs)

unfoldable pub part_value : (K : Field) → Table K → ℕ → Poly K → Value K
part_value K T w [] f = K.nought
part_value K T w (m ∷ u) f =
    cond (nat_eq (word_weight T m.0) w) (K.plus (K.times m.1 (straight K T m.0 f)) (part_value K T w u f)) (part_value K T w u f)

unfoldable pub straightened : (K : Field) → Table K → ℕ → Poly K → Poly K
straightened K T d u = terms K (λ f. poly_value K u (λ w. straight K T w f)) (words_through T d)

abbrev pub times_word : (K : Field) → Word → K.Carrier → Poly K → Poly K
times_word K w c v = map (λ m. (w ++ m.0, K.times c m.1)) v

unfoldable pub poly_product : (K : Field) → Poly K → Poly K → Poly K
poly_product K [] v = []
poly_product K (m ∷ u) v = times_word K m.0 m.1 v ++ poly_product K u v

abbrev pub multiplied : (K : Field) → Table K → ℕ → Poly K → Poly K → Poly K
multiplied K T d u v = straightened K T d (poly_product K u v)
