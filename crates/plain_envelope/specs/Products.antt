-- Products of basis elements and ordered words, and the parities of words. Basis elements count from 0.
--
--   word_parity T u          the parity of a word: the sum of those of its letters
--   even_words T us          how many words of a list are even
--   odd_words T us           how many are odd
--   Product K                a basis element in front of a word, and a poly
--   acted_product K T w i u  b_i in front of the word u, where both weigh w, with what its action on u gives: the ordered words of weight w, each with its
--                            coefficient
--   products_at K T w i      the products of b_i that weigh w: with each ordered word of the weight that is left before which it may not stand
--   products_of K T w        those of weight w, by basis element
--   products_through K T d   those of the weights up to d, by weight
use Rattle.std.specs.Prelude.{ℕ, suc, ◌-◌, List, [], ◌∷◌, length, map, cond, nat_le, not, count_by}
use Rattle.std.specs.List.{filter}
use Rattle.math_fields.specs.Field.{Field}
use Rattle.math_linear.specs.Lists.{joined}
use Rattle.math_algebra.specs.Tree.{Parity, even, parity_sum}
use Rattle.math_algebra.specs.Table.{Table, weight_at, parity_at}
use Rattle.math_algebra.specs.Symbols.{is_odd}
use Rattle.math_words.specs.Words.{Word, may_stand}
use Rattle.math_words.specs.Action.{action}
use Rattle.math_words.specs.Polys.{Poly}
use Rattle.plain_envelope.specs.Listing.{words_of}
use Rattle.plain_envelope.specs.Straight.{terms}

unfoldable pub word_parity : {K : Field} → Table K → Word → Parity
word_parity T [] = even
word_parity T (i ∷ u) = parity_sum (parity_at T i) (word_parity T u)

abbrev pub even_words : {K : Field} → Table K → List Word → ℕ
even_words T us = count_by (λ u. not (is_odd (word_parity T u))) us

abbrev pub odd_words : {K : Field} → Table K → List Word → ℕ
odd_words T us = count_by (λ u. is_odd (word_parity T u)) us

pub record Product (K : Field) : Type 0 where
  pub first : ℕ
  pub word : Word
  pub form : Poly K

abbrev pub acted_product : (K : Field) → Table K → (w i : ℕ) → Word → Product K
acted_product K T w i u = record { first = i; word = u; form = terms K (λ f. action K T i u f) (words_of T w) }

unfoldable pub products_at : (K : Field) → Table K → (w i : ℕ) → List (Product K)
products_at K T w i =
    cond (nat_le (weight_at T i) w) (map (acted_product K T w i) (filter (λ u. not (may_stand T i u)) (words_of T (w - weight_at T i)))) []

unfoldable pub products_of : (K : Field) → Table K → ℕ → List (Product K)
products_of K T w = joined (length T.basis) (products_at K T w)

unfoldable pub products_through : (K : Field) → Table K → ℕ → List (Product K)
products_through K T d = joined (suc d) (products_of K T)
