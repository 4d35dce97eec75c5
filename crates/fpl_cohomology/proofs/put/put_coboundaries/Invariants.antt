use Rattle.std.proofs.Common.{◌≡◌, ◌≤◌, Ok, map}
use Rattle.plain_spans.specs.Plain.{put_rows}
use Rattle.plain_cohomology.specs.Plain.{coboundary_row}
use Rattle.fpl_cohomology.proofs.Putting.{rest}
use Rattle.fpl_cohomology.proofs.put.put_coboundaries.Given as goal

abbrev pub invariant-loop-k : goal.invariant-loop-k
invariant-loop-k g l = record {
  left : put_rows (map (λ e. Ok (coboundary_row l.table l.tuples.weight e)) l.tuples.singles.items) l.initial.span
      ≡ put_rows (rest (λ e. Ok (coboundary_row l.table l.tuples.weight e)) l.tuples.singles.items l.k) l.span;
  kind : l.span.kind ≡ l.initial.span.kind;
  size : l.span.size ≡ l.initial.span.size;
  rises : l.initial.steps ≤ l.steps;
}
