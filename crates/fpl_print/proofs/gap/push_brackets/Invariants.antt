use Rattle.std.proofs.Common.{◌≡◌, ◌++◌, map}
use Rattle.fpl_table.specs.Plain.{symbol_in}
use Rattle.fpl_print.specs.GapText.{items_text, bracket_item}
use Rattle.fpl_print.proofs.gap.push_brackets.Given as goal

abbrev pub invariant-loop-k : goal.invariant-loop-k
invariant-loop-k g l = l.out.items ≡ l.initial.out.items ++ items_text l.k (bracket_item l.table (map symbol_in l.valued))
