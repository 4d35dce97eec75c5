-- The texts of subspaces of a table.
--   word_text word: the word of a text
--   row_lines rows: each row as a combination of basis elements, on a line
--   space_lines rows: how many rows there are, and the rows
--   term_head word k: what stands before term k of a series, which counts from 1; nothing before the one space of another text
--   term_lines word k terms: the spaces, from term k on
--   space_text word T terms: the field and the weight; the spaces
use Rattle.std.specs.Prelude.{ℕ, ◌+◌, List, [], ◌∷◌, ◌++◌, length, codes, decimal}
use Rattle.fpl_numbers.specs.declared.number.Num.{Num}
use Rattle.fpl_table.specs.Plain.{PlainTable}
use Rattle.fpl_print.specs.Combinations.{combination_text}
use Rattle.fpl_print.specs.Lines.{head_line, count_line}
use Rattle.fpl_print.specs.TableText.{basis_name}
use Rattle.fpl_structure.specs.declared.texts.SpaceWord.{SpaceWord}
use Rattle.fpl_structure.specs.declared.texts.SpaceWord.TheVariants.{Centre, Lcs, Ideal}

abbrev pub word_text : SpaceWord → List ℕ
word_text Centre = codes "centre"
word_text Lcs = codes "lcs"
word_text Ideal = codes "ideal"

abbrev pub row_line : List Num → List ℕ
row_line row = combination_text basis_name row ++ codes "\n"

abbrev pub row_lines : List (List Num) → List ℕ
row_lines [] = []
row_lines (row ∷ rows) = row_line row ++ row_lines rows

abbrev pub space_lines : List (List Num) → List ℕ
space_lines rows = count_line (codes "dimension ") (length rows) ++ row_lines rows

abbrev pub term_head : SpaceWord → ℕ → List ℕ
term_head Centre k = []
term_head Lcs k = codes "term " ++ decimal k ++ codes " "
term_head Ideal k = []

abbrev pub term_line : SpaceWord → ℕ → List (List Num) → List ℕ
term_line word k rows = term_head word k ++ space_lines rows

abbrev pub term_lines : SpaceWord → ℕ → List (List (List Num)) → List ℕ
term_lines word k [] = []
term_lines word k (rows ∷ terms) = term_line word k rows ++ term_lines word (k + 1) terms

abbrev pub space_text : SpaceWord → PlainTable → List (List (List Num)) → List ℕ
space_text word T terms = head_line (word_text word) T.kind T.weight ++ term_lines word 1 terms ++ codes "end\n"
