use Rattle.std.proofs.Common.{◌≡◌, ◌++◌, drop}
use Rattle.fpl_structure.specs.Texts.{row_lines}
use Rattle.fpl_structure.proofs.texts.push_rows.Given as goal

abbrev pub invariant-loop-k : goal.invariant-loop-k
invariant-loop-k g l = l.out.items ++ row_lines (drop l.k l.rows) ≡ l.initial.out.items ++ row_lines l.rows
