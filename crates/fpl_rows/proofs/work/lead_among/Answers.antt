use Rattle.std.proofs.Common.{◌-◌, ◌∙◌, map, ap, sym, arith}
use Rattle.fpl_numbers.specs.Numbers.{is_nought}
use Rattle.fpl_rows.proofs.AtPositions.{lead_here, lead_lower}
use Rattle.fpl_rows.proofs.Markings.{lead_skip}
use Rattle.fpl_rows.proofs.work.lead_among.Goals as goal

pub loop-s-init : goal.loop-s-init
loop-s-init g c = record {
  at_most = c.end_below-s.ensures.at_most;
  left = lead_skip c.args.marks.now (map (g.F.Field.summed c.args.field.now) c.args.sums.now) c.end_below-s.result c.args.most c.requires.marked
      c.end_below-s.ensures.at_most c.end_below-s.ensures.none;
}

pub returns-then-not-is_zero-clause-value : goal.returns-then-not-is_zero-clause-value
returns-then-not-is_zero-clause-value g c =
    let m = c.requires.most in
    let a = c.loop-s.invariant.at_most in
    sym (c.loop-s.invariant.left
    ∙ lead_here (g.F.Field.summed c.args.field.now) c.args.sums.now c.loop-s.s c.index-sums-s.result c.loop-s-test.true
    (omega (arith, m, a)) c.index-sums-s.is (ap is_nought (sym c.settle.ensures) ∙ sym c.if-not-is_zero.ensures))

pub loop-s-preserved : goal.loop-s-preserved
loop-s-preserved g c =
    let m = c.requires.most in
    let a = c.loop-s.invariant.at_most in
    let l = c.end_below-s-in-loop-s.ensures.at_most in
    record {
      at_most = omega (arith, l, a);
      left = c.loop-s.invariant.left
          ∙ lead_lower (g.F.Field.summed c.args.field.now) c.args.sums.now c.loop-s.s c.index-sums-s.result c.loop-s-test.true
          (omega (arith, m, a)) c.index-sums-s.is (ap is_nought (sym c.settle.ensures) ∙ sym c.if-not-is_zero.ensures)
          ∙ lead_skip c.args.marks.now (map (g.F.Field.summed c.args.field.now) c.args.sums.now) c.end_below-s-in-loop-s.result
          (c.loop-s.s - 1) c.requires.marked l c.end_below-s-in-loop-s.ensures.none;
    }
