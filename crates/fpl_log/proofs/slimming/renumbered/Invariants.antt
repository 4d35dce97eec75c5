use Rattle.fpl_log.proofs.SlimLoops.{Left}
use Rattle.fpl_log.proofs.slimming.renumbered.Given as goal

abbrev pub invariant-loop-i : goal.invariant-loop-i
invariant-loop-i l = Left l.steps l.i l.numbers.items l.kept
