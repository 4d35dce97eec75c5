use Rattle.std.proofs.Common.{◌≡◌, ◌++◌, drop}
use Rattle.fpl_cohomology.specs.Text.{form_lines}
use Rattle.fpl_cohomology.proofs.text.push_form_lines.Given as goal

abbrev pub invariant-loop-k : goal.invariant-loop-k
invariant-loop-k g l = l.out.items ++ form_lines l.forms (drop l.k l.rows) ≡ l.initial.out.items ++ form_lines l.forms l.rows
