use Rattle.std.proofs.Common.{◌≡◌, ◌+◌, ◌∙◌, sym, ap, arith, suc}
use Rattle.fpl_check.specs.ClosedRows.{close_count}
use Rattle.std.proofs.Common.{drop}
use Rattle.fpl_check.proofs.Loops.{count_close, count_other}
use Rattle.fpl_check.proofs.closed.count_closes.Goals.{then-is_close, else-is_close}
use Rattle.fpl_check.proofs.closed.count_closes.Goals as goal

pub loop-i-preserved : goal.loop-i-preserved
loop-i-preserved c =
    let next : c.loop-i.i + 1 ≡ suc c.loop-i.i = omega arith in
    let at = ap (λ j. close_count (drop j c.args.steps.now)) next in
    elim c.if-is_close.branch [
      | then-is_close w ↦ let h = count_close c.args.steps.now c.loop-i.i (sym c.is_close.ensures ∙ w.if-is_close.true) in record {
        at_most = omega arith;
        done = omega arith;
      }
      | else-is_close w ↦ let h = count_other c.args.steps.now c.loop-i.i (sym c.is_close.ensures ∙ w.if-is_close.false) in record {
        at_most = omega arith;
        done = omega arith;
      }
    ]
