use Rattle.std.proofs.Common.{◌≡◌, ◌≤◌, ◌-◌, drop}
use Rattle.plain_spans.specs.Plain.{put_rows}
use Rattle.plain_structure.specs.Plain.{brackets_with}
use Rattle.fpl_structure.proofs.brackets.put_brackets.Given as goal

abbrev pub invariant-loop-k : goal.invariant-loop-k
invariant-loop-k g l = record {
  left : put_rows (brackets_with l.table (l.i - 1) l.rows) l.initial.span ≡ put_rows (brackets_with l.table (l.i - 1) (drop l.k l.rows)) l.span;
  kind : l.span.kind ≡ l.initial.span.kind;
  size : l.span.size ≡ l.initial.span.size;
  rises : l.initial.steps ≤ l.steps;
}
