use Rattle.std.proofs.Common.{◌≡◌, ◌≤◌, ◌+◌, ◌-◌, ◌++◌, length, drop}
use Rattle.plain_weights.specs.Section.{coefficients_from}
use Rattle.fpl_complete.proofs.section.coefficients_by_position.Given as goal

abbrev pub invariant-loop-symbol : goal.invariant-loop-symbol
invariant-loop-symbol g l = record {
  within : l.after ≤ length l.row;
  kept : coefficients_from 1 l.row ≡ l.kept ++ coefficients_from (l.after + 1) (drop l.after l.row);
}

abbrev pub decreases-loop-symbol : goal.decreases-loop-symbol
decreases-loop-symbol g l = length l.row - l.after
