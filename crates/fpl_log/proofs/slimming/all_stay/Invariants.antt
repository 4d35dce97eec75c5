use Rattle.std.proofs.Common.{◌≡◌, drop}
use Rattle.fpl_log.specs.Slim.{all_stay}
use Rattle.fpl_log.proofs.slimming.all_stay.Given as goal

abbrev pub invariant-loop-i : goal.invariant-loop-i
invariant-loop-i l = all_stay l.steps ≡ all_stay (drop l.i l.steps)
