use Rattle.std.proofs.Common.{◌≡◌, ◌+◌, drop}
use Rattle.fpl_check.specs.Closing.{are_closed}
use Rattle.fpl_check.proofs.closing.are_closed.Given as goal

abbrev pub invariant-loop-k : goal.invariant-loop-k
invariant-loop-k l = are_closed l.steps 1 l.steps ≡ are_closed l.steps (l.k + 1) (drop l.k l.steps)
