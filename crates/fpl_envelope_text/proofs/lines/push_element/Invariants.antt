use Rattle.std.proofs.Common.{◌≡◌, ◌-◌, ◌++◌, drop}
use Rattle.fpl_envelope_text.specs.Texts.{product_lines}
use Rattle.fpl_envelope_text.specs.Plain.{lines_at}
use Rattle.fpl_envelope_text.proofs.lines.push_element.Given as goal

abbrev pub invariant-loop-number : goal.invariant-loop-number
invariant-loop-number g l =
    l.out.items ++ product_lines (drop l.number (lines_at l.table l.w (l.i - 1))) ≡ l.initial.out.items ++ product_lines (lines_at l.table l.w (l.i - 1))
