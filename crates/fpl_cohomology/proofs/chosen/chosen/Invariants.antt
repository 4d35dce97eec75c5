use Rattle.std.proofs.Common.{◌≡◌, ◌++◌, drop}
use Rattle.plain_cohomology.specs.Plain.{chosen}
use Rattle.fpl_cohomology.proofs.chosen.chosen.Given as goal

abbrev pub invariant-loop-k : goal.invariant-loop-k
invariant-loop-k g l = l.rows ++ chosen (drop l.k l.cocycles) l.coboundaries ≡ chosen l.cocycles l.coboundaries
