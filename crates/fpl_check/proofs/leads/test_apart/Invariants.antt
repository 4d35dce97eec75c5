use Rattle.std.proofs.Common.{◌≡◌, ◌+◌, drop}
use Rattle.fpl_check.specs.ClosedRows.{test_apart}
use Rattle.fpl_check.proofs.leads.test_apart.Given as goal

abbrev pub invariant-loop-k : goal.invariant-loop-k
invariant-loop-k g l = test_apart 1 l.rows l.rows ≡ test_apart (l.k + 1) l.rows (drop l.k l.rows)
