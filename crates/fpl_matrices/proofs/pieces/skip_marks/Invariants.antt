use Rattle.std.proofs.Common.{◌≡◌, ◌≤◌, ◌+◌, ◌-◌, length, drop}
use Rattle.std.specs.List.{prefix_len}
use Rattle.fpl_matrices.specs.MapText.{is_mark}
use Rattle.fpl_matrices.proofs.pieces.skip_marks.Given as goal

abbrev pub invariant-loop-end : goal.invariant-loop-end
invariant-loop-end l = record {
  same : l.end + prefix_len is_mark (drop l.end l.bytes) ≡ l.at + prefix_len is_mark (drop l.at l.bytes);
  above : l.at ≤ l.end;
  within : l.end ≤ length l.bytes;
}

abbrev pub decreases-loop-end : goal.decreases-loop-end
decreases-loop-end l = length l.bytes - l.end
