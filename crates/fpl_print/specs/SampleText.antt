-- The text of the view sample: how large a table is, and nothing of its numbers.
--   dimension_text T v: the number of basis elements of weight v + 1, after a space
--   sample_text T: the weight; the size of the basis; how many of it have weight 1, weight 2, and so on; how many brackets of basis elements aren't 0
use Rattle.std.specs.Prelude.{ℕ, ◌+◌, List, ◌++◌, length, codes, decimal}
use Rattle.fpl_table.specs.Plain.{PlainTable}
use Rattle.fpl_print.specs.Lines.{count_line}
use Rattle.fpl_print.specs.TableText.{text_of, brackets_of}
use Rattle.fpl_print.specs.SeriesText.{even_count, odd_count}

-- v counts from 0
abbrev pub dimension_text : PlainTable → ℕ → List ℕ
dimension_text T v = codes " " ++ decimal (even_count T (v + 1) + odd_count T (v + 1))

abbrev pub sample_text : PlainTable → List ℕ
sample_text T =
    count_line (codes "sample ") T.weight ++ count_line (codes "basis ") (length T.basis) ++ codes "weights"
    ++ text_of T.weight (dimension_text T) ++ codes "\n" ++ count_line (codes "brackets ") (length (brackets_of T)) ++ codes "end\n"
