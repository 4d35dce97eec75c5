use Rattle.std.proofs.Common.{◌≤◌, ◌+◌, ◌∙◌, sym, ap, arith, length, inl, inr}
use Rattle.fpl_log.proofs.TermsTaken.{past_end}
use Rattle.fpl_check.specs.ClosedRows.{is_formed}
use Rattle.fpl_check.proofs.Loops.{formed_next, formed_stop}
use Rattle.fpl_check.proofs.stored.is_formed.Goals.{then-c-after-via-then-c-after, then-c-after-via-else-c-after+then-c-n, then-c-after-via-else-c-after+else-c-n+then-is_zero, in-None, in-Some+else-c-after+else-c-n+else-is_zero}
use Rattle.fpl_check.proofs.stored.is_formed.Goals as goal

pub returns-then-c-after : goal.returns-then-c-after
returns-then-c-after c = elim c.then-c-after.branch [
  | then-c-after-via-then-c-after w ↦
      sym (c.loop-i.invariant ∙ formed_stop c.args.n c.loop-i.after c.args.row.now c.loop-i.i c.in-Some.c c.in-Some.ensures (inl w.if-c-after.true))
  | then-c-after-via-else-c-after+then-c-n w ↦
      sym (c.loop-i.invariant ∙ formed_stop c.args.n c.loop-i.after c.args.row.now c.loop-i.i c.in-Some.c c.in-Some.ensures (inr (inl w.if-c-n.true)))
  | then-c-after-via-else-c-after+else-c-n+then-is_zero w ↦
      sym (c.loop-i.invariant ∙ formed_stop c.args.n c.loop-i.after c.args.row.now c.loop-i.i c.in-Some.c c.in-Some.ensures
      (inr (inr (sym w.is_zero.ensures ∙ w.if-is_zero.true))))
]

pub loop-i-preserved : goal.loop-i-preserved
loop-i-preserved c = elim c.match-get.branch [
  | in-None w ↦ absurd (let l : length c.args.row.now ≤ c.loop-i.i = past_end c.args.row.now c.loop-i.i w.in-None.ensures in omega arith)
  | in-Some+else-c-after+else-c-n+else-is_zero w ↦
      c.loop-i.invariant
      ∙ formed_next c.args.n c.loop-i.after c.args.row.now (c.loop-i.i + 1) c.loop-i.i w.in-Some.c
      (omega arith) w.in-Some.ensures w.if-c-after.false w.if-c-n.false (sym w.is_zero.ensures ∙ w.if-is_zero.false)
      ∙ ap (λ a. is_formed c.args.n a _) (sym w.after-is)
]
