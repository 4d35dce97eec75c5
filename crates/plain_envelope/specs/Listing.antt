-- The ordered words of a weight, in their order, and how many there are. Basis elements count from 0.
--
--   IsWeighted T          each basis element has a weight of at least 1
--   IsSorted T            basis elements stand by weight
--   words_begun T L w i   the words of weight w that begin with b_i, where L has the words of each lower weight: b_i before each word of the weight that is
--                         left before which it may stand
--   word_lists T w        the words of each weight from 0 to w
--   words_of T w          those of weight w
--   begun T w i           those of weight w that begin with b_i
--   head_count T w i      how many of weight w begin with an element before b_i
--   next_letter T i       the least number that may follow i in a word: i where b_i is even, else i + 1
--   skipped T w i         how many words of weight w stand before those before which b_i may stand
--   count_through T w     how many words there are of weights 1 to w
--   word_limit T n w      the least weight of at most w through which the words number more than n, with that number
use Rattle.std.specs.Prelude.{ℕ, zero, suc, ◌+◌, ◌-◌, ◌<◌, ◌≤◌, List, [], ◌∷◌, ◌++◌, length, map, get_or, Option, Some, None, cond, nat_le, nat_lt}
use Rattle.std.specs.List.{filter}
use Rattle.math_fields.specs.Field.{Field}
use Rattle.math_linear.specs.Lists.{joined}
use Rattle.math_algebra.specs.Table.{Table, weight_at, parity_at}
use Rattle.math_algebra.specs.Symbols.{is_odd}
use Rattle.math_words.specs.Words.{Word, may_stand}

abbrev pub IsWeighted : {K : Field} → Table K → Type 0
IsWeighted T = (i : ℕ) → i < length T.basis → 1 ≤ weight_at T i

abbrev pub IsSorted : {K : Field} → Table K → Type 0
IsSorted T = (i j : ℕ) → i ≤ j → j < length T.basis → weight_at T i ≤ weight_at T j

abbrev pub words_begun : {K : Field} → Table K → List (List Word) → ℕ → ℕ → List Word
words_begun T L w i =
    cond (nat_le (weight_at T i) w) (map (λ u. i ∷ u) (filter (may_stand T i) (get_or L (w - weight_at T i) []))) []

-- the empty word alone has weight 0
unfoldable pub word_lists : {K : Field} → Table K → ℕ → List (List Word)
word_lists T zero = ([] ∷ []) ∷ []
word_lists T (suc w) = word_lists T w ++ (joined (length T.basis) (words_begun T (word_lists T w) (suc w)) ∷ [])

unfoldable pub words_of : {K : Field} → Table K → ℕ → List Word
words_of T w = get_or (word_lists T w) w []

unfoldable pub begun : {K : Field} → Table K → ℕ → ℕ → List Word
begun T w i = cond (nat_le (weight_at T i) w) (map (λ u. i ∷ u) (filter (may_stand T i) (words_of T (w - weight_at T i)))) []

unfoldable pub head_count : {K : Field} → Table K → ℕ → ℕ → ℕ
head_count T w i = length (joined i (begun T w))

abbrev pub next_letter : {K : Field} → Table K → ℕ → ℕ
next_letter T i = cond (is_odd (parity_at T i)) (i + 1) i

-- b_i may stand before the empty word
abbrev pub skipped : {K : Field} → Table K → ℕ → ℕ → ℕ
skipped T zero i = 0
skipped T (suc w) i = head_count T (suc w) (next_letter T i)

unfoldable pub count_through : {K : Field} → Table K → ℕ → ℕ
count_through T zero = 0
count_through T (suc w) = count_through T w + length (words_of T (suc w))

abbrev pub or_at : Option (ℕ × ℕ) → ℕ → ℕ → ℕ → Option (ℕ × ℕ)
or_at (Some p) n w count = Some p
or_at None n w count = cond (nat_lt n count) (Some (w, count)) None

unfoldable pub word_limit : {K : Field} → Table K → ℕ → ℕ → Option (ℕ × ℕ)
word_limit T n zero = None
word_limit T n (suc w) = or_at (word_limit T n w) n (suc w) (count_through T (suc w))
