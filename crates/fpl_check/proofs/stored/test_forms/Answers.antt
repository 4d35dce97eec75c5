use Rattle.std.proofs.Common.{◌≤◌, ◌+◌, ◌∙◌, sym, arith, length}
use Rattle.fpl_log.proofs.TermsTaken.{past_end}
use Rattle.fpl_check.proofs.Loops.{forms_next, forms_stop}
use Rattle.fpl_check.proofs.stored.test_forms.Goals.{in-None, in-Some+else-not-is_formed}
use Rattle.fpl_check.proofs.stored.test_forms.Goals as goal

pub returns-then-not-is_formed : goal.returns-then-not-is_formed
returns-then-not-is_formed c =
    c.loop-k.invariant ∙ forms_stop c.args.n (c.loop-k.k + 1) c.args.rows.now c.loop-k.k c.in-Some.row.now c.in-Some.ensures
    (sym c.is_formed.ensures ∙ c.if-not-is_formed.true)

pub loop-k-preserved : goal.loop-k-preserved
loop-k-preserved c = elim c.match-get.branch [
  | in-None w ↦ absurd (let l : length c.args.rows.now ≤ c.loop-k.k = past_end c.args.rows.now c.loop-k.k w.in-None.ensures in omega arith)
  | in-Some+else-not-is_formed w ↦
      c.loop-k.invariant
      ∙ forms_next c.args.n (c.loop-k.k + 1) c.args.rows.now (c.loop-k.k + 1) c.loop-k.k w.in-Some.row.now (omega arith) w.in-Some.ensures
      (sym w.is_formed.ensures ∙ w.if-not-is_formed.false)
]
