use Rattle.std.proofs.Common.{◌≡◌, ◌≤◌, Ok}
use Rattle.math_linear.specs.Lists.{joined}
use Rattle.plain_spans.specs.Plain.{put_rows}
use Rattle.plain_structure.specs.Plain.{bracket_rows_at}
use Rattle.fpl_structure.proofs.brackets.put_bracket_rows.Given as goal

abbrev pub invariant-loop-i : goal.invariant-loop-i
invariant-loop-i g l = record {
  put : put_rows (joined l.i (bracket_rows_at l.table l.rows)) l.initial.span ≡ Ok l.span;
  kind : l.span.kind ≡ l.initial.span.kind;
  size : l.span.size ≡ l.initial.span.size;
  rises : l.initial.steps ≤ l.steps;
}
