use Rattle.std.proofs.Common.{◌≡◌, ◌++◌, take, drop}
use Rattle.fpl_lanes.specs.Lanes.{AllBelow, multiplied}
use Rattle.fpl_lanes.proofs.kernels.scale.Given as goal

abbrev pub invariant-loop-i : goal.invariant-loop-i
invariant-loop-i l = record {
  below : AllBelow l.p l.row;
  left : multiplied l.p l.c l.initial.row ≡ take l.i l.row ++ multiplied l.p l.c (drop l.i l.row);
}
