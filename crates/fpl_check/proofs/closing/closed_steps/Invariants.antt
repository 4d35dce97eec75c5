use Rattle.std.proofs.Common.{◌≤◌, drop, length}
use Rattle.fpl_check.specs.Closing.{AreMarked}
use Rattle.fpl_check.proofs.closing.closed_steps.Given as goal

abbrev pub invariant-loop-k : goal.invariant-loop-k
invariant-loop-k l = record {
  at_most : l.k ≤ length l.steps;
  marked : AreMarked (length l.steps) (drop l.k l.steps) l.marks.items;
}

abbrev pub decreases-loop-k : goal.decreases-loop-k
decreases-loop-k l = l.k
