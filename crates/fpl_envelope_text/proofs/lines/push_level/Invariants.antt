use Rattle.std.proofs.Common.{◌≡◌, ◌++◌}
use Rattle.math_linear.specs.Lists.{joined}
use Rattle.fpl_envelope_text.specs.Texts.{product_lines}
use Rattle.fpl_envelope_text.specs.Plain.{lines_at}
use Rattle.fpl_envelope_text.proofs.lines.push_level.Given as goal

abbrev pub invariant-loop-i : goal.invariant-loop-i
invariant-loop-i g l = l.out.items ≡ l.initial.out.items ++ product_lines (joined l.i (lines_at l.table l.w))
