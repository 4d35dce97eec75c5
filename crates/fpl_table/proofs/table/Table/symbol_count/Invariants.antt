use Rattle.std.proofs.Common.{◌≡◌, ◌≤◌, ◌+◌, ◌*◌, length}
use Rattle.fpl_table.specs.Cells.{generator_cells}
use Rattle.fpl_table.specs.Cells.{pairs_to}
use Rattle.fpl_table.proofs.table.Table.symbol_count.Given as goal

abbrev pub invariant-loop-i : goal.invariant-loop-i
invariant-loop-i g l = record {
  few : l.count ≤ 64 + l.i * 2000000000;
  value : l.count ≡ length (generator_cells l.self l.w) + length (pairs_to l.self l.w l.i);
}
