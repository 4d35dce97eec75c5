use Rattle.std.proofs.Common.{◌≡◌, ◌∙◌, Ok, ap, refl, subst, arith, map}
use Rattle.fpl_numbers.specs.Results.{IsFault}
use Rattle.plain_spans.specs.Plain.{put_rows}
use Rattle.plain_cohomology.specs.Plain.{triple_row}
use Rattle.fpl_cohomology.specs.Forms.{triple_in}
use Rattle.fpl_cohomology.proofs.Members.{triple_at}
use Rattle.fpl_cohomology.proofs.Putting.{put_next, put_stops, form_stops, put_last, row_here, map_twice}
use Rattle.fpl_cohomology.proofs.put.put_triples.Goals as goal

pub triple_row-requires-clause-triple : goal.triple_row-requires-clause-triple
triple_row-requires-clause-triple g c =
    triple_at c.args.table.now c.args.tuples.now.weight c.args.tuples.now.triples.items c.requires.tuples.triples c.loop-k.k c.index.result.now
    (omega arith) c.index.ensures

pub put-requires : goal.put-requires
put-requires g c = record {
  row =
      row_here c.args.table.now.kind c.loop-k.span.kind _ c.loop-k.span.size _ _ (c.loop-k.invariant.kind ∙ c.requires.kind)
      (c.loop-k.invariant.size ∙ c.requires.size) refl c.in-Ok.ensures.row;
}

pub loop-k-preserved : goal.loop-k-preserved
loop-k-preserved g c = record {
  left = put_next (λ x. triple_row c.args.table.now c.args.tuples.now.weight (triple_in x)) c.args.tuples.now.triples.items _ c.loop-k.span c.loop-k.k
      c.loop-k.invariant.left c.index.result.now c.index.result.now c.in-Ok.row c.put.new.self (omega arith) c.index.ensures
      c.in-Ok.ensures.value c.in-Ok-put.ensures.value;
  kind = c.in-Ok-put.ensures.kind ∙ c.loop-k.invariant.kind;
  size = c.in-Ok-put.ensures.size ∙ c.loop-k.invariant.size;
  rises = (let a = c.in-Ok-put.ensures.step in let b = c.loop-k.invariant.rises in omega (arith, a, b));
}

pub returns-in-Err-put-clause-value : goal.returns-in-Err-put-clause-value
returns-in-Err-put-clause-value g c =
    subst (λ rs. IsFault c.in-Err-put.fault (put_rows rs c.args.span.now))
    (map_twice (triple_row c.args.table.now c.args.tuples.now.weight) triple_in c.args.tuples.now.triples.items
    ∙ ap (map (triple_row c.args.table.now c.args.tuples.now.weight)) c.requires.tuples.triples)
    (put_stops (λ x. triple_row c.args.table.now c.args.tuples.now.weight (triple_in x)) c.args.tuples.now.triples.items _ c.loop-k.span c.loop-k.k
    c.loop-k.invariant.left c.index.result.now c.index.result.now c.in-Ok.row c.in-Err-put.fault (omega arith) c.index.ensures
    c.in-Ok.ensures.value c.in-Err-put.ensures.value)

pub returns-in-Err-clause-value : goal.returns-in-Err-clause-value
returns-in-Err-clause-value g c =
    subst (λ rs. IsFault c.in-Err.fault (put_rows rs c.args.span.now))
    (map_twice (triple_row c.args.table.now c.args.tuples.now.weight) triple_in c.args.tuples.now.triples.items
    ∙ ap (map (triple_row c.args.table.now c.args.tuples.now.weight)) c.requires.tuples.triples)
    (form_stops (λ x. triple_row c.args.table.now c.args.tuples.now.weight (triple_in x)) c.args.tuples.now.triples.items _ c.loop-k.span c.loop-k.k
    c.loop-k.invariant.left c.index.result.now c.index.result.now c.in-Err.fault (omega arith) c.index.ensures c.in-Err.ensures.value)

pub returns-clause-value : goal.returns-clause-value
returns-clause-value g c =
    subst (λ rs. put_rows rs c.args.span.now ≡ Ok c.loop-k.span)
    (map_twice (triple_row c.args.table.now c.args.tuples.now.weight) triple_in c.args.tuples.now.triples.items
    ∙ ap (map (triple_row c.args.table.now c.args.tuples.now.weight)) c.requires.tuples.triples)
    (put_last (λ x. triple_row c.args.table.now c.args.tuples.now.weight (triple_in x)) c.args.tuples.now.triples.items _ c.loop-k.span c.loop-k.k
    c.loop-k.invariant.left (omega arith))
