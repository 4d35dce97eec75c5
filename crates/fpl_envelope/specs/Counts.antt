-- The counts of words that code keeps. Basis elements count from 0 here.
--
--   words_in T w        the ordered words of weight w over a table of code
--   word_in T w k       word k of them, from 0
--   heads_in T w i      how many of them begin with an element before b_i
--   skipped_in T w i    how many of them come before those before which b_i may stand
--   IsCountRow T w row  the row of the first, for each i up to the number of basis elements of at most the weight
--   IsRest T i w k v r  word k of weight w is b_i before word r of weight v, before which b_i may stand
--   AreCounts T rows    such rows for the weights from 1 on, of at most 2,000,000 words each; that of weight 0 says nothing
use Rattle.std.specs.Prelude.{ℕ, suc, ◌≡◌, ◌≤◌, ◌<◌, ◌+◌, List, [], ◌∷◌, length, get_or}
use Rattle.math_words.specs.Words.{Word}
use Rattle.fpl_table.specs.Plain.{PlainTable, plain_basis, table_in, through}
use Rattle.plain_envelope.specs.Listing.{words_of, head_count, skipped}

abbrev pub words_in : PlainTable → ℕ → List Word
words_in T w = words_of (table_in T.kind T) w

abbrev pub word_in : PlainTable → ℕ → ℕ → Word
word_in T w k = get_or (words_in T w) k []

abbrev pub heads_in : PlainTable → ℕ → ℕ → ℕ
heads_in T w i = head_count (table_in T.kind T) w i

abbrev pub skipped_in : PlainTable → ℕ → ℕ → ℕ
skipped_in T w i = skipped (table_in T.kind T) w i

pub record IsCountRow (T : PlainTable) (w : ℕ) (row : List ℕ) : Type 0 where
  pub long : length row ≡ suc (through T w)
  pub is : (i : ℕ) → i ≤ through T w → get_or row i 0 ≡ heads_in T w i

pub record AreCounts (T : PlainTable) (rows : List (List ℕ)) : Type 0 where
  pub some : 1 ≤ length rows
  pub within : length rows ≤ suc T.weight
  pub row : (w : ℕ) → 1 ≤ w → w < length rows → IsCountRow T w (get_or rows w [])
  pub few : (w : ℕ) → w < length rows → length (words_in T w) ≤ 2000000

pub record IsRest (T : PlainTable) (i w k v r : ℕ) : Type 0 where
  pub weight : (plain_basis T i).weight + v ≡ w
  pub less : v < w
  pub within : r < length (words_in T v)
  pub stands : skipped_in T v i ≤ r
  pub word : word_in T w k ≡ (i ∷ word_in T v r)
