use Rattle.std.proofs.Common.{◌≡◌, ◌++◌, take, drop, length}
use Rattle.fpl_lanes.specs.Lanes.{AllBelow, added}
use Rattle.fpl_lanes.proofs.kernels.axpy.Given as goal

abbrev pub invariant-loop-i : goal.invariant-loop-i
invariant-loop-i l = record {
  same : length l.row ≡ length l.other;
  below : AllBelow l.p l.row;
  left : added l.p l.initial.row l.c l.other ≡ take l.i l.row ++ added l.p (drop l.i l.row) l.c (drop l.i l.other);
}
