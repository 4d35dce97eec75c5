use Rattle.std.proofs.Common.{◌≤◌, ◌+◌, ◌∙◌, sym, ap, arith, length, drop}
use Rattle.fpl_log.proofs.TermsTaken.{past_end}
use Rattle.fpl_check.specs.ClosedRows.{test_leads}
use Rattle.fpl_check.proofs.Composed.{same_refusal}
use Rattle.fpl_check.proofs.RowLoops.{leads_next, leads_stop}
use Rattle.fpl_check.proofs.leads.test_leads.Goals.{in-None, in-Some+in-Ok}
use Rattle.fpl_check.proofs.leads.test_leads.Goals as goal

pub returns-in-Err : goal.returns-in-Err
returns-in-Err g c =
    same_refusal c.in-Err.fault _ _ c.loop-k.invariant
    (leads_stop c.in-Err.fault (c.loop-k.k + 1) c.loop-k.before c.args.rows.now c.loop-k.k c.in-Some.row.now c.in-Some.ensures c.in-Err.ensures.value)

pub loop-k-preserved : goal.loop-k-preserved
loop-k-preserved g c = elim c.match-get.branch [
  | in-None w ↦ absurd (let l : length c.args.rows.now ≤ c.loop-k.k = past_end c.args.rows.now c.loop-k.k w.in-None.ensures in omega arith)
  | in-Some+in-Ok w ↦
      c.loop-k.invariant
      ∙ leads_next (c.loop-k.k + 1) c.loop-k.before c.args.rows.now (c.loop-k.k + 1) c.loop-k.k w.in-Some.row.now
      (omega arith) w.in-Some.ensures w.in-Ok.ensures.value
      ∙ ap (λ b. test_leads (c.loop-k.k + 1 + 1) b (drop (c.loop-k.k + 1) c.args.rows.now)) (sym (w.before-is ∙ w.in-Ok.ensures.lead))
]
