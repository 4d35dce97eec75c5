use Rattle.std.proofs.Common.{◌≤◌, ◌+◌, ◌∙◌, arith, length, ap}
use Rattle.fpl_log.proofs.TermsTaken.{past_end}
use Rattle.fpl_log.proofs.SlimLoops.{cites_here, steps_next}
use Rattle.fpl_log.proofs.slimming.renumbered.Goals.{in-None, in-Some+in_ok-place-in-Some}
use Rattle.fpl_log.proofs.slimming.renumbered.Goals as goal

pub place-requires : goal.place-requires
place-requires c = cites_here c.args.steps.now c.loop-i.i c.loop-i.numbers.items c.loop-i.kept c.in-Some.step.now c.loop-i.invariant c.in-Some.ensures

pub loop-i-preserved : goal.loop-i-preserved
loop-i-preserved c = elim c.match-get.branch [
  | in-None w ↦ absurd (let l : length c.args.steps.now ≤ c.loop-i.i = past_end c.args.steps.now c.loop-i.i w.in-None.ensures in omega arith)
  | in-Some+in_ok-place-in-Some w ↦
      steps_next c.args.steps.now (c.loop-i.i + 1) c.loop-i.i c.loop-i.numbers.items c.match-get.numbers.items c.loop-i.kept c.match-get.kept
      w.in-Some.step.now (omega arith) w.in-Some.ensures c.loop-i.invariant
      (ap (λ v. v.items) w.numbers-is ∙ w.in_ok-place-in-Some.ensures.numbers) (w.kept-is ∙ w.in_ok-place-in-Some.ensures.kept)
]
