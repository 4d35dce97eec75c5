use Rattle.std.proofs.Common.{◌≡◌, ◌≤◌, ◌+◌, ◌-◌, drop}
use Rattle.fpl_check.specs.ClosedRows.{stored_row, test_same}
use Rattle.fpl_check.proofs.StoredRows.{IsRest}
use Rattle.fpl_check.proofs.stored.test_same.Given as goal

abbrev pub invariant-symbols : goal.invariant-symbols
invariant-symbols g l = record {
  few : l.i ≤ l.after;
  within : l.after ≤ l.n;
  rest : IsRest l.n l.after l.i l.stored;
  done : test_same l.k 1 (stored_row l.n l.stored) l.concluded ≡ test_same l.k (l.after + 1) (drop l.after (stored_row l.n l.stored))
      (drop l.after l.concluded);
}

abbrev pub decreases-symbols : goal.decreases-symbols
decreases-symbols g l = l.n - l.after
