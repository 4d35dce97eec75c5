use Rattle.std.proofs.Common.{◌≡◌, ◌+◌, ◌≤◌, length}
use Rattle.fpl_rewrite.specs.Cursor.{to_come}
use Rattle.fpl_complete.proofs.gather.pass_over.Given as goal

abbrev pub invariant-loop-count : goal.invariant-loop-count
invariant-loop-count g l = record {
  weight : l.at.weight ≡ l.table.weight + 1;
  told : l.count + length (to_come l.table l.p l.at) ≡ l.passed + length (to_come l.table l.p l.fn.at);
  start : l.fn.steps ≤ l.steps;
  count : l.steps + length (to_come l.table l.p l.at) ≡ l.fn.steps + length (to_come l.table l.p l.fn.at);
}
