use Rattle.std.proofs.Common.{◌≡◌, ◌≤◌, ◌+◌, ◌-◌, drop, length, option_map}
use Rattle.fpl_lanes.specs.Lanes.{first_of}
use Rattle.fpl_lanes.proofs.kernels.first_nonzero.Given as goal

abbrev pub invariant-loop-from : goal.invariant-loop-from
invariant-loop-from l = record {
  within : l.from ≤ length l.row;
  left : first_of l.row ≡ option_map (λ k. l.from + k) (first_of (drop l.from l.row));
}

abbrev pub decreases-loop-from : goal.decreases-loop-from
decreases-loop-from l = length l.row - l.from
