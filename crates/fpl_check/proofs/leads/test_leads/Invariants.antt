use Rattle.std.proofs.Common.{◌≡◌, ◌+◌, drop}
use Rattle.fpl_check.specs.ClosedRows.{test_leads}
use Rattle.fpl_check.proofs.leads.test_leads.Given as goal

abbrev pub invariant-loop-k : goal.invariant-loop-k
invariant-loop-k g l = test_leads 1 0 l.rows ≡ test_leads (l.k + 1) l.before (drop l.k l.rows)
