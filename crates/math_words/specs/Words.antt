-- Words over the basis of a table: lists of basis numbers, which count from 0.
--
--   Word          a word
--   IsWord        a word of numbers of the basis
--   word_weight   the sum of the weights of its letters
--   may_stand     whether an element may stand before a word, so that the word stays ordered: the first letter is greater, or is the same and even
--   IsOrdered     numbers of the basis that never descend, an odd one at most once
--   same_word     the test for equal words
--   IsLess        the lexicographic order of words
--   IsBefore      the order of words: by weight, then lexicographic
use Rattle.std.specs.Prelude.{ℕ, List, [], ◌∷◌, ◌≡◌, ◌⊎◌, ◌+◌, ◌<◌, length, Bool, true, false, not, cond, nat_eq}
use Rattle.math_fields.specs.Field.{Field}
use Rattle.math_algebra.specs.Table.{Table, weight_at}
use Rattle.math_algebra.specs.Symbols.{is_regular}

abbrev pub Word : Type 0
Word = List ℕ

abbrev pub IsWord : {K : Field} → Table K → Word → Type 0
IsWord T [] = Unit {0}
IsWord T (i ∷ w) = (i < length T.basis) × IsWord T w

unfoldable pub word_weight : {K : Field} → Table K → Word → ℕ
word_weight T [] = 0
word_weight T (i ∷ w) = weight_at T i + word_weight T w

-- not where the pair of the first letter and the element is regular: then the product is rewritten
unfoldable pub may_stand : {K : Field} → Table K → ℕ → Word → Bool
may_stand T i [] = true
may_stand T i (j ∷ w) = not (is_regular T j i)

pub data IsOrdered {K : Field} (T : Table K) : Word → Type 0 where
  ordered_none : IsOrdered T []
  ordered_more : (i : ℕ) (w : Word) → i < length T.basis → may_stand T i w ≡ true → IsOrdered T w → IsOrdered T (i ∷ w)

unfoldable pub same_word : Word → Word → Bool
same_word [] [] = true
same_word [] (j ∷ u) = false
same_word (i ∷ w) [] = false
same_word (i ∷ w) (j ∷ u) = cond (nat_eq i j) (same_word w u) false

pub data IsLess : Word → Word → Type 0 where
  less_end : (i : ℕ) (w : Word) → IsLess [] (i ∷ w)
  less_letter : (i j : ℕ) (w u : Word) → i < j → IsLess (i ∷ w) (j ∷ u)
  less_rest : (i : ℕ) (w u : Word) → IsLess w u → IsLess (i ∷ w) (i ∷ u)

abbrev pub IsBefore : {K : Field} → Table K → Word → Word → Type 0
IsBefore T w u = (word_weight T w < word_weight T u) ⊎ ((word_weight T w ≡ word_weight T u) × IsLess w u)
