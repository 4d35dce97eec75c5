use Rattle.std.proofs.Common.{◌≡◌, ◌++◌}
use Rattle.fpl_print.specs.TableText.{text_of}
use Rattle.fpl_spelling.specs.Spelling.{names_of}
use Rattle.fpl_print.specs.LogText.{weight_lines}
use Rattle.fpl_print.proofs.log.push_weights.Given as goal

abbrev pub invariant-loop-v : goal.invariant-loop-v
invariant-loop-v g l = l.out.items ≡ l.initial.out.items ++ text_of l.v (weight_lines (names_of l.p) l.table l.sections)
