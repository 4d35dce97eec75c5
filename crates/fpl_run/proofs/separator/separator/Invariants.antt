use Rattle.std.proofs.Common.{ℕ, ◌<◌}
use Rattle.fpl_run.specs.Separator.{IsSeparatorAt}
use Rattle.fpl_run.proofs.separator.separator.Given as goal

abbrev pub invariant-loop-at : goal.invariant-loop-at
invariant-loop-at l = (i : ℕ) → i < l.at → IsSeparatorAt l.bytes i → ⊥
