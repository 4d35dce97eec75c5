use Rattle.std.proofs.Common.{◌≡◌, ◌≤◌, Ok}
use Rattle.plain_spans.specs.Plain.{begin, put_rows, free_rows}
use Rattle.fpl_echelon.proofs.kernels.solutions.Given as goal

abbrev pub invariant-loop-f : goal.invariant-loop-f
invariant-loop-f g l = record {
  put : put_rows (free_rows (g.F.Field.kind_of l.field) l.n l.pivots l.f) (begin (g.F.Field.kind_of l.field) l.n) ≡ Ok l.span;
  kind : l.span.kind ≡ g.F.Field.kind_of l.field;
  size : l.span.size ≡ l.n;
  rises : l.initial.steps ≤ l.steps;
}
