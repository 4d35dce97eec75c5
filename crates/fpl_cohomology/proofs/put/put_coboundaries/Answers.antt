use Rattle.std.proofs.Common.{◌≡◌, ◌∙◌, Ok, ap, sym, subst, arith, map}
use Rattle.fpl_numbers.specs.Results.{IsFault}
use Rattle.plain_spans.specs.Plain.{put_rows}
use Rattle.plain_cohomology.specs.Plain.{coboundary_row}
use Rattle.fpl_cohomology.proofs.Members.{single_row}
use Rattle.fpl_cohomology.proofs.Putting.{put_next, put_stops, put_last, row_here}
use Rattle.fpl_cohomology.proofs.put.put_coboundaries.Goals as goal

pub put-requires : goal.put-requires
put-requires g c = record {
  row =
      row_here c.args.table.now.kind c.loop-k.span.kind _ c.loop-k.span.size _ _ (c.loop-k.invariant.kind ∙ c.requires.kind)
      (c.loop-k.invariant.size ∙ c.requires.size) (sym c.in_ok-row.ensures)
      (single_row c.args.table.now c.args.tuples.now.weight c.requires.tuples.shape c.requires.tuples.reached.1 c.index.result.now);
}

pub loop-k-preserved : goal.loop-k-preserved
loop-k-preserved g c = record {
  left = put_next (λ e. Ok (coboundary_row c.args.table.now c.args.tuples.now.weight e)) c.args.tuples.now.singles.items _ c.loop-k.span c.loop-k.k
      c.loop-k.invariant.left c.index.result.now c.index.result.now c.in_ok-row.row c.put.new.self (omega arith) c.index.ensures
      (ap Ok (sym c.in_ok-row.ensures)) c.in-Ok.ensures.value;
  kind = c.in-Ok.ensures.kind ∙ c.loop-k.invariant.kind;
  size = c.in-Ok.ensures.size ∙ c.loop-k.invariant.size;
  rises = (let a = c.in-Ok.ensures.step in let b = c.loop-k.invariant.rises in omega (arith, a, b));
}

pub returns-in-Err-clause-value : goal.returns-in-Err-clause-value
returns-in-Err-clause-value g c =
    subst (λ es. IsFault c.in-Err.fault (put_rows (map (λ e. Ok (coboundary_row c.args.table.now c.args.tuples.now.weight e)) es) c.args.span.now))
    c.requires.tuples.singles
    (put_stops (λ e. Ok (coboundary_row c.args.table.now c.args.tuples.now.weight e)) c.args.tuples.now.singles.items _ c.loop-k.span c.loop-k.k
    c.loop-k.invariant.left c.index.result.now c.index.result.now c.in_ok-row.row c.in-Err.fault (omega arith) c.index.ensures
    (ap Ok (sym c.in_ok-row.ensures)) c.in-Err.ensures.value)

pub returns-clause-value : goal.returns-clause-value
returns-clause-value g c =
    subst (λ es. put_rows (map (λ e. Ok (coboundary_row c.args.table.now c.args.tuples.now.weight e)) es) c.args.span.now ≡ Ok c.loop-k.span)
    c.requires.tuples.singles
    (put_last (λ e. Ok (coboundary_row c.args.table.now c.args.tuples.now.weight e)) c.args.tuples.now.singles.items _ c.loop-k.span c.loop-k.k
    c.loop-k.invariant.left (omega arith))
