use Rattle.std.proofs.Common.{◌≡◌, ◌≤◌, Ok, map}
use Rattle.plain_spans.specs.Plain.{put_rows}
use Rattle.plain_cohomology.specs.Plain.{bracket_row}
use Rattle.fpl_cohomology.proofs.Putting.{rest}
use Rattle.fpl_cohomology.proofs.put.put_brackets.Given as goal

abbrev pub invariant-loop-s : goal.invariant-loop-s
invariant-loop-s g l = record {
  left : put_rows (map (λ x. Ok (bracket_row l.table l.tuples.weight x)) l.tuples.pairs) l.initial.span
      ≡ put_rows (rest (λ x. Ok (bracket_row l.table l.tuples.weight x)) l.tuples.pairs l.s) l.span;
  kind : l.span.kind ≡ l.initial.span.kind;
  size : l.span.size ≡ l.initial.span.size;
  rises : l.initial.steps ≤ l.steps;
}
