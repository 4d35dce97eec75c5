use Rattle.std.proofs.Common.{◌<◌, ◌≤◌, ◌∙◌, sym, arith, length}
use Rattle.fpl_log.proofs.TermsTaken.{past_end}
use Rattle.fpl_check.proofs.ClosingSteps.{mark_is, closed_next, closed_stops}
use Rattle.fpl_check.proofs.closing.are_closed.Goals.{in-None, in-Some+else-not-needs_no_more}
use Rattle.fpl_check.proofs.closing.are_closed.Goals as goal

pub returns-then-not-needs_no_more : goal.returns-then-not-needs_no_more
returns-then-not-needs_no_more c =
    let steps = c.args.steps.now in
    let within : c.loop-k.k < length c.args.steps.now = omega arith in
    let mark = mark_is steps c.in_ok-marks.marks.items c.loop-k.k c.index.result.now c.in_ok-marks.ensures within c.index.ensures in
    sym (c.loop-k.invariant ∙ closed_stops steps steps c.loop-k.k c.in-Some.step.now c.index.result.now c.in-Some.ensures mark
    (sym c.needs_no_more.ensures ∙ c.if-not-needs_no_more.true))

pub loop-k-preserved : goal.loop-k-preserved
loop-k-preserved c = elim c.match-get.branch [
  | in-None w ↦ absurd (let l : length c.args.steps.now ≤ c.loop-k.k = past_end c.args.steps.now c.loop-k.k w.in-None.ensures in omega arith)
  | in-Some+else-not-needs_no_more w ↦
      let steps = c.args.steps.now in
      let within : c.loop-k.k < length c.args.steps.now = omega arith in
      let mark = mark_is steps c.in_ok-marks.marks.items c.loop-k.k w.index.result.now c.in_ok-marks.ensures within w.index.ensures in
      c.loop-k.invariant ∙ closed_next steps steps c.loop-k.k w.in-Some.step.now w.index.result.now w.in-Some.ensures mark
      (sym w.needs_no_more.ensures ∙ w.if-not-needs_no_more.false)
]
