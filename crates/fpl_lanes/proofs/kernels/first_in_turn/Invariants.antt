use Rattle.std.proofs.Common.{◌≡◌, drop, ◌+◌, option_map}
use Rattle.fpl_lanes.specs.Lanes.{first_of}
use Rattle.fpl_lanes.proofs.kernels.first_in_turn.Given as goal

abbrev pub invariant-loop-i : goal.invariant-loop-i
invariant-loop-i l = first_of l.row ≡ option_map (λ k. l.i + k) (first_of (drop l.i l.row))
