use Rattle.std.proofs.Common.{◌≤◌, ◌+◌, ◌++◌, ◌∷◌, ◌∙◌, [], List, ap, arith, length}
use Rattle.fpl_log.specs.declared.closed.Coefficient.{Coefficient}
use Rattle.fpl_log.proofs.TermsTaken.{past_end}
use Rattle.fpl_complete.proofs.Coefficients.{rows_next}
use Rattle.fpl_complete.proofs.section.list_of.Goals.{in-None, in-Some+in_ok-coefficients_of-in-Some+in_ok-push-in-Some}
use Rattle.fpl_complete.proofs.section.list_of.Goals as goal

pub loop-i-preserved : goal.loop-i-preserved
loop-i-preserved g c = elim c.match-get.branch [
  | in-None w ↦ absurd (let l : length c.args.rows.now ≤ c.loop-i.i = past_end c.args.rows.now c.loop-i.i w.in-None.ensures in omega arith)
  | in-Some+in_ok-coefficients_of-in-Some+in_ok-push-in-Some w ↦
      rows_next c.args.rows.now c.loop-i.list c.match-get.list _ (c.loop-i.i + 1) c.loop-i.i w.in-Some.row.now
      (omega arith) w.in-Some.ensures c.loop-i.invariant
      (w.list-is ∙ w.in_ok-push-in-Some.ensures.ok ∙ ap (λ (r : List Coefficient). c.loop-i.list ++ r ∷ []) w.in_ok-coefficients_of-in-Some.ensures)
]
