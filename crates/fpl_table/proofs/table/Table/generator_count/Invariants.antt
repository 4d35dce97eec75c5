use Rattle.std.proofs.Common.{◌≡◌, ◌≤◌, length}
use Rattle.math_linear.specs.Lists.{joined}
use Rattle.fpl_table.specs.Cells.{generator_cell}
use Rattle.fpl_table.proofs.table.Table.generator_count.Given as goal

abbrev pub invariant-loop-g : goal.invariant-loop-g
invariant-loop-g g l = record {
  few : l.count ≤ l.g;
  value : l.count ≡ length (joined l.g (generator_cell l.self l.w));
}
