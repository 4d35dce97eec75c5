use Rattle.std.proofs.Common.{◌≡◌, ◌+◌, drop}
use Rattle.fpl_check.specs.ClosedRows.{test_forms}
use Rattle.fpl_check.proofs.stored.test_forms.Given as goal

abbrev pub invariant-loop-k : goal.invariant-loop-k
invariant-loop-k l = test_forms l.n 1 l.rows ≡ test_forms l.n (l.k + 1) (drop l.k l.rows)
