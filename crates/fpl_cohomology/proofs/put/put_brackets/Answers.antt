use Rattle.std.proofs.Common.{◌≡◌, ◌∙◌, Ok, ap, sym, subst, arith, map}
use Rattle.fpl_numbers.specs.Results.{IsFault}
use Rattle.plain_spans.specs.Plain.{put_rows}
use Rattle.math_algebra.specs.Symbols.{no_symbol}
use Rattle.fpl_table.specs.Plain.{symbol_in}
use Rattle.plain_cohomology.specs.Plain.{bracket_row}
use Rattle.fpl_cohomology.proofs.Members.{pair_at, pair_row}
use Rattle.fpl_cohomology.proofs.Putting.{put_next, put_stops, put_last, row_here}
use Rattle.fpl_cohomology.proofs.put.put_brackets.Goals as goal

pub bracket_row-requires-clause-pair : goal.bracket_row-requires-clause-pair
bracket_row-requires-clause-pair g c =
    pair_at c.args.table.now c.args.tuples.now.weight c.args.tuples.now.pairs c.requires.tuples.pairs c.loop-s.s (symbol_in c.get.result)
    (omega arith) c.get.ensures.value

pub put-requires : goal.put-requires
put-requires g c = record {
  row =
      row_here c.args.table.now.kind c.loop-s.span.kind _ c.loop-s.span.size _ _ (c.loop-s.invariant.kind ∙ c.requires.kind)
      (c.loop-s.invariant.size ∙ c.requires.size) (sym c.in_ok-row.ensures)
      (pair_row c.args.table.now c.args.tuples.now.weight c.args.tuples.now.pairs c.requires.tuples.pairs c.loop-s.s (symbol_in c.get.result)
      (omega arith) c.get.ensures.value c.requires.tuples.shape c.requires.tuples.reached.1);
}

pub loop-s-preserved : goal.loop-s-preserved
loop-s-preserved g c = record {
  left = put_next (λ x. Ok (bracket_row c.args.table.now c.args.tuples.now.weight x)) c.args.tuples.now.pairs _ c.loop-s.span c.loop-s.s
      c.loop-s.invariant.left (symbol_in c.get.result) no_symbol c.in_ok-row.row c.put.new.self (omega arith) c.get.ensures.value
      (ap Ok (sym c.in_ok-row.ensures)) c.in-Ok.ensures.value;
  kind = c.in-Ok.ensures.kind ∙ c.loop-s.invariant.kind;
  size = c.in-Ok.ensures.size ∙ c.loop-s.invariant.size;
  rises = (let a = c.in-Ok.ensures.step in let b = c.loop-s.invariant.rises in omega (arith, a, b));
}

pub returns-in-Err-clause-value : goal.returns-in-Err-clause-value
returns-in-Err-clause-value g c =
    subst (λ ps. IsFault c.in-Err.fault (put_rows (map (λ x. Ok (bracket_row c.args.table.now c.args.tuples.now.weight x)) ps) c.args.span.now))
    c.requires.tuples.pairs
    (put_stops (λ x. Ok (bracket_row c.args.table.now c.args.tuples.now.weight x)) c.args.tuples.now.pairs _ c.loop-s.span c.loop-s.s
    c.loop-s.invariant.left (symbol_in c.get.result) no_symbol c.in_ok-row.row c.in-Err.fault (omega arith) c.get.ensures.value
    (ap Ok (sym c.in_ok-row.ensures)) c.in-Err.ensures.value)

pub returns-clause-value : goal.returns-clause-value
returns-clause-value g c =
    subst (λ ps. put_rows (map (λ x. Ok (bracket_row c.args.table.now c.args.tuples.now.weight x)) ps) c.args.span.now ≡ Ok c.loop-s.span)
    c.requires.tuples.pairs
    (put_last (λ x. Ok (bracket_row c.args.table.now c.args.tuples.now.weight x)) c.args.tuples.now.pairs _ c.loop-s.span c.loop-s.s
    c.loop-s.invariant.left (omega arith))
