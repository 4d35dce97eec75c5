-- The text of the view cohomology. Basis elements count from 1 in it.
--
--   form_name x           cI for the form that is 1 at b_I, cI^cJ for the one that is 1 at the pair of b_I and b_J
--   name_at tuples s      the name of tuple s
--   form_line, form_lines a line for each form that a row stands for
--   degree_head           WORD weight W dimension N
--   degree_lines          the same, and a line for each representative
--   low_lines             the lines of a weight: H1, then H2
--   lows_lines            those of the weights from w on
--   cohomology_text       the field and the weight; the lines of each weight from 1 on; the end
use Rattle.std.specs.Prelude.{ℕ, suc, List, [], ◌∷◌, ◌++◌, length, get_or, codes, decimal}
use Rattle.fpl_numbers.specs.declared.number.Num.{Num}
use Rattle.fpl_table.specs.Plain.{PlainTable}
use Rattle.fpl_print.specs.Combinations.{combination_text}
use Rattle.fpl_print.specs.Lines.{head_line, count_line}
use Rattle.plain_cohomology.specs.Plain.{Low}
use Rattle.fpl_cohomology.specs.Forms.{forms_of}

abbrev pub form_name : List ℕ → List ℕ
form_name [] = []
form_name (i ∷ []) = codes "c" ++ decimal i
form_name (i ∷ (j ∷ rest)) = codes "c" ++ decimal i ++ codes "^c" ++ decimal j

abbrev pub name_at : List (List ℕ) → ℕ → List ℕ
name_at tuples s = form_name (get_or tuples s [])

abbrev pub form_line : List (List ℕ) → List Num → List ℕ
form_line tuples row = combination_text (name_at tuples) row ++ codes "\n"

abbrev pub form_lines : List (List ℕ) → List (List Num) → List ℕ
form_lines tuples [] = []
form_lines tuples (row ∷ rows) = form_line tuples row ++ form_lines tuples rows

abbrev pub degree_head : (word : List ℕ) → (weight dimension : ℕ) → List ℕ
degree_head word w n = word ++ codes " weight " ++ decimal w ++ count_line (codes " dimension ") n

abbrev pub degree_lines : (word : List ℕ) → (weight : ℕ) → (tuples : List (List ℕ)) → (rows : List (List Num)) → List ℕ
degree_lines word w tuples rows = degree_head word w (length rows) ++ form_lines tuples rows

abbrev pub low_lines : PlainTable → ℕ → Low → List ℕ
low_lines T w low = degree_lines (codes "H1") w (forms_of T 1 w) low.h1 ++ degree_lines (codes "H2") w (forms_of T 2 w) low.h2

abbrev pub lows_lines : PlainTable → ℕ → List Low → List ℕ
lows_lines T w [] = []
lows_lines T w (low ∷ lows) = low_lines T w low ++ lows_lines T (suc w) lows

abbrev pub cohomology_text : PlainTable → List Low → List ℕ
cohomology_text T lows = head_line (codes "cohomology") T.kind T.weight ++ lows_lines T 1 lows ++ codes "end\n"
