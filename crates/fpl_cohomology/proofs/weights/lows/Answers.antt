use Rattle.std.proofs.Common.{arith}
use Rattle.fpl_cohomology.specs.Rows.{low_as}
use Rattle.fpl_cohomology.proofs.Putting.{lows_next, lows_stop}
use Rattle.fpl_cohomology.proofs.weights.lows.Goals as goal

pub loop-w-preserved : goal.loop-w-preserved
loop-w-preserved g c = record {
  value = lows_next c.args.table.now c.loop-w.w c.loop-w.lows c.loop-w.invariant.value (low_as c.in-Ok.low.h1 c.in-Ok.low.h2) c.push.new.self
      c.in-Ok.ensures.value c.in_ok-push-in-Ok.ensures.ok;
  rises = (let a = c.in-Ok.ensures.rises in let b = c.loop-w.invariant.rises in omega (arith, a, b));
}

pub returns-in-Err-clause-value : goal.returns-in-Err-clause-value
returns-in-Err-clause-value g c =
    lows_stop c.args.table.now c.loop-w.w c.loop-w.lows c.loop-w.invariant.value c.in-Err.fault c.in-Err.ensures.value c.args.table.now.weight (omega arith)
