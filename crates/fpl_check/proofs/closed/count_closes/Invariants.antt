use Rattle.std.proofs.Common.{◌≡◌, ◌≤◌, ◌+◌, drop}
use Rattle.fpl_check.specs.ClosedRows.{close_count}
use Rattle.fpl_check.proofs.closed.count_closes.Given as goal

abbrev pub invariant-loop-i : goal.invariant-loop-i
invariant-loop-i l = record {
  at_most : l.closes ≤ l.i;
  done : l.closes + close_count (drop l.i l.steps) ≡ close_count l.steps;
}
