use Rattle.std.proofs.Common.{◌≡◌, ◌+◌, drop, map}
use Rattle.fpl_check.specs.ClosedRows.{stored_row, test_conclusions}
use Rattle.fpl_check.proofs.closed.test_conclusions.Given as goal

abbrev pub invariant-loop-k : goal.invariant-loop-k
invariant-loop-k g l =
    test_conclusions 1 (map (stored_row l.n) l.closed) l.conclusions ≡ test_conclusions (l.k + 1) (drop l.k (map (stored_row l.n) l.closed))
    (drop l.k l.conclusions)
