use Rattle.std.proofs.Common.{◌≡◌, ◌≤◌, map}
use Rattle.plain_spans.specs.Plain.{put_rows}
use Rattle.plain_cohomology.specs.Plain.{triple_row}
use Rattle.fpl_cohomology.specs.Forms.{triple_in}
use Rattle.fpl_cohomology.proofs.Putting.{rest}
use Rattle.fpl_cohomology.proofs.put.put_triples.Given as goal

abbrev pub invariant-loop-k : goal.invariant-loop-k
invariant-loop-k g l = record {
  left : put_rows (map (λ x. triple_row l.table l.tuples.weight (triple_in x)) l.tuples.triples.items) l.initial.span
      ≡ put_rows (rest (λ x. triple_row l.table l.tuples.weight (triple_in x)) l.tuples.triples.items l.k) l.span;
  kind : l.span.kind ≡ l.initial.span.kind;
  size : l.span.size ≡ l.initial.span.size;
  rises : l.initial.steps ≤ l.steps;
}
