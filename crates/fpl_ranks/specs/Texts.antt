-- The texts of the view map.
--   respected_line count: relations R respected
--   rank_line T w rank: weight W dimension A rank B
--   map_text p T ranks: the field and the weight; how many relations are respected; a line for each weight, from 1
--   broken_text kind limit k: the field and the limit; the least relation that isn't respected, which counts from 1
use Rattle.std.specs.Prelude.{ℕ, ◌+◌, List, ◌++◌, length, get_or, codes, decimal}
use Rattle.fpl_numbers.specs.declared.number.Kind.{Kind}
use Rattle.fpl_model.specs.declared.presentation.Presentation.{Presentation}
use Rattle.fpl_table.specs.Plain.{PlainTable}
use Rattle.fpl_print.specs.Lines.{head_line, count_line}
use Rattle.fpl_print.specs.TableText.{text_of}
use Rattle.plain_ranks.specs.Ranks.{dimension_of}

abbrev pub respected_line : ℕ → List ℕ
respected_line count = codes "relations " ++ decimal count ++ codes " respected\n"

abbrev pub rank_line : PlainTable → (w rank : ℕ) → List ℕ
rank_line T w rank = codes "weight " ++ decimal w ++ codes " dimension " ++ decimal (dimension_of T w) ++ count_line (codes " rank ") rank

abbrev pub map_text : Presentation → PlainTable → (ranks : List ℕ) → List ℕ
map_text p T ranks =
    head_line (codes "map") T.kind T.weight ++ respected_line (length p.relations) ++ text_of T.weight (λ v. rank_line T (v + 1) (get_or ranks v 0))
    ++ codes "end\n"

abbrev pub broken_text : Kind → (limit k : ℕ) → List ℕ
broken_text kind limit k = head_line (codes "map") kind limit ++ codes "relation " ++ decimal k ++ codes " broken\nend\n"
