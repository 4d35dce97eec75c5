use Rattle.std.proofs.Common.{◌≡◌, ◌≤◌, ◌+◌, ◌-◌, drop, length}
use Rattle.fpl_check.specs.ClosedRows.{test_crossing}
use Rattle.fpl_check.specs.Leads.{marked}
use Rattle.fpl_check.proofs.leads.test_crossing.Given as goal

abbrev pub invariant-symbols : goal.invariant-symbols
invariant-symbols g l = record {
  within : l.after ≤ length l.row;
  done : test_crossing l.k (marked l.marks) l.lead 1 l.row ≡ test_crossing l.k (marked l.marks) l.lead (l.after + 1) (drop l.after l.row);
}

abbrev pub decreases-symbols : goal.decreases-symbols
decreases-symbols g l = length l.row - l.after
