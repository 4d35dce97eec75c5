use Rattle.std.proofs.Common.{◌≡◌, ◌≤◌, ◌*◌, length}
use Rattle.math_linear.specs.Lists.{joined}
use Rattle.fpl_envelope_text.specs.Plain.{lines_of}
use Rattle.fpl_envelope_text.proofs.lines.count_through.Given as goal

abbrev pub invariant-loop-w : goal.invariant-loop-w
invariant-loop-w g l = record {
  value : l.count ≡ length (joined l.w (lines_of l.table));
  few : l.count ≤ 8589934592000000 * l.w;
}
