use Rattle.std.proofs.Common.{◌≡◌, ◌≤◌, Ok}
use Rattle.plain_cohomology.specs.Plain.{lows_of}
use Rattle.fpl_cohomology.proofs.weights.lows.Given as goal

abbrev pub invariant-loop-w : goal.invariant-loop-w
invariant-loop-w g l = record {
  value : lows_of l.table l.w ≡ Ok l.lows;
  rises : l.initial.steps ≤ l.steps;
}
