use Rattle.std.proofs.Common.{◌≡◌, ◌++◌, length}
use Rattle.fpl_check.specs.ClosedRows.{close_rows}
use Rattle.fpl_check.proofs.closed.close_rows.Given as goal

abbrev pub invariant-loop-conclusion : goal.invariant-loop-conclusion
invariant-loop-conclusion g l = record {
  made : l.rows ≡ close_rows l.steps l.yielded;
  count : l.i ≡ length l.yielded;
  parts : l.fn.conclusions.items ≡ l.yielded ++ l.conclusion-iterator.rest.items;
}
