use Rattle.std.proofs.Common.{◌≤◌, ◌+◌, ◌∙◌, sym, arith, length}
use Rattle.fpl_log.proofs.TermsTaken.{past_end}
use Rattle.fpl_log.proofs.AllStay.{stay_next, stay_stop}
use Rattle.fpl_log.proofs.slimming.all_stay.Goals.{in-None, in-Some+else-is_left_out}
use Rattle.fpl_log.proofs.slimming.all_stay.Goals as goal

pub returns-then-is_left_out : goal.returns-then-is_left_out
returns-then-is_left_out c = sym (c.loop-i.invariant ∙ stay_stop c.args.steps.now c.loop-i.i c.in-Some.step.now c.in-Some.ensures
    (sym c.is_left_out.ensures ∙ c.if-is_left_out.true))

pub loop-i-preserved : goal.loop-i-preserved
loop-i-preserved c = elim c.match-get.branch [
  | in-None w ↦ absurd (let l : length c.args.steps.now ≤ c.loop-i.i = past_end c.args.steps.now c.loop-i.i w.in-None.ensures in omega arith)
  | in-Some+else-is_left_out w ↦
      c.loop-i.invariant ∙ stay_next c.args.steps.now (c.loop-i.i + 1) c.loop-i.i w.in-Some.step.now (omega arith) w.in-Some.ensures
      (sym w.is_left_out.ensures ∙ w.if-is_left_out.false)
]
