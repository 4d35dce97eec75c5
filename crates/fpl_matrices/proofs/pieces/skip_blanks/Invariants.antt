use Rattle.std.proofs.Common.{◌≡◌, ◌≤◌, ◌-◌, length}
use Rattle.fpl_matrices.specs.MapText.{start_of}
use Rattle.fpl_matrices.proofs.pieces.skip_blanks.Given as goal

abbrev pub invariant-loop-start : goal.invariant-loop-start
invariant-loop-start l = record {
  same : start_of l.bytes l.start ≡ start_of l.bytes l.at;
  within : l.start ≤ length l.bytes;
}

abbrev pub decreases-loop-start : goal.decreases-loop-start
decreases-loop-start l = length l.bytes - l.start
