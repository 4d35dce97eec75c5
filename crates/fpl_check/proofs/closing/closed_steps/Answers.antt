use Rattle.std.proofs.Common.{◌≤◌, ◌-◌, arith, length}
use Rattle.fpl_log.proofs.TermsTaken.{past_end}
use Rattle.fpl_check.proofs.ClosingSteps.{marked_closed}
use Rattle.fpl_check.proofs.closing.closed_steps.Goals as goal

pub loop-k-preserved : goal.loop-k-preserved
loop-k-preserved c = record {
  at_most = (let h = c.loop-k.invariant.at_most in omega arith);
  marked = marked_closed (length c.args.steps.now) c.loop-k.k
      (c.loop-k.k - 1) c.args.steps.now c.in-Some.step.now c.loop-k.marks.items c.mark_closed.new.marks.items (omega arith) c.in-Some.ensures
      c.loop-k.invariant.marked c.mark_closed.ensures.length c.mark_closed.ensures.marks;
}

pub loop-k-preserved-in-None : goal.loop-k-preserved-in-None
loop-k-preserved-in-None c = absurd
    (let l : length c.args.steps.now ≤ c.loop-k.k - 1 = past_end c.args.steps.now
    (c.loop-k.k - 1) c.in-None.ensures in let h = c.loop-k.invariant.at_most in omega arith)
