-- What code keeps to make the text.
--
--   spelled_words T w     the words of weight w, with numbers from 1
--   AreLists T lists      those of the weights from 0 on, up to the table's
--   name_at words s       the name of word s of such a list
--   row_line              bI.WORD = COMBINATION, for a row over a list of words
use Rattle.std.specs.Prelude.{ℕ, suc, ◌≡◌, ◌<◌, List, [], ◌∷◌, ◌++◌, length, map, get_or, codes}
use Rattle.fpl_numbers.specs.declared.number.Num.{Num}
use Rattle.fpl_table.specs.Plain.{PlainTable}
use Rattle.fpl_print.specs.Combinations.{combination_text}
use Rattle.fpl_envelope.specs.Counts.{words_in}
use Rattle.fpl_envelope_text.specs.Texts.{word_text}

abbrev pub spelled_words : PlainTable → ℕ → List (List ℕ)
spelled_words T w = map (λ u. map suc u) (words_in T w)

abbrev pub AreLists : PlainTable → List (List (List ℕ)) → Type 0
AreLists T lists = (w : ℕ) → w < length lists → get_or lists w [] ≡ spelled_words T w

abbrev pub name_at : List (List ℕ) → ℕ → List ℕ
name_at words s = word_text (get_or words s [])

abbrev pub row_line : (words : List (List ℕ)) (i : ℕ) (word : List ℕ) → List Num → List ℕ
row_line words i word row = word_text (i ∷ word) ++ codes " = " ++ combination_text (name_at words) row ++ codes "\n"
