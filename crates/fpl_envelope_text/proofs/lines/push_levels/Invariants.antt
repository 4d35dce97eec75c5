use Rattle.std.proofs.Common.{◌≡◌, ◌++◌}
use Rattle.math_linear.specs.Lists.{joined}
use Rattle.fpl_envelope_text.specs.Texts.{product_lines}
use Rattle.fpl_envelope_text.specs.Plain.{lines_of}
use Rattle.fpl_envelope_text.proofs.lines.push_levels.Given as goal

abbrev pub invariant-loop-w : goal.invariant-loop-w
invariant-loop-w g l = l.out.items ≡ l.initial.out.items ++ product_lines (joined l.w (lines_of l.table))
