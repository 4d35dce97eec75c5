use Rattle.std.proofs.Common.{◌≤◌, drop, length}
use Rattle.fpl_check.specs.Leads.{IsMarking}
use Rattle.fpl_check.proofs.leads.marking.Given as goal

abbrev pub invariant-loop-k : goal.invariant-loop-k
invariant-loop-k g l = record {
  at_most : l.k ≤ length l.rows;
  marking : IsMarking l.n (drop l.k l.rows) l.marks.items;
}

abbrev pub decreases-loop-k : goal.decreases-loop-k
decreases-loop-k g l = l.k
