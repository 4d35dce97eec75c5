use Rattle.std.proofs.Common.{◌≡◌, ◌++◌}
use Rattle.fpl_print.specs.GapText.{items_text, weight_item}
use Rattle.fpl_print.proofs.gap_basis.push_weights.Given as goal

abbrev pub invariant-loop-i : goal.invariant-loop-i
invariant-loop-i g l = l.out.items ≡ l.initial.out.items ++ items_text l.i (weight_item l.table)
