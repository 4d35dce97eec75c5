use Rattle.std.proofs.Common.{◌∙◌, sym, arith}
use Rattle.fpl_echelon.proofs.Spanning.{none_left}
use Rattle.fpl_cohomology.proofs.Lines.{pivot_here, pivot_next}
use Rattle.fpl_cohomology.proofs.chosen.is_pivot.Goals as goal
use Rattle.fpl_cohomology.proofs.chosen.is_pivot.Goals.{in-Some+else-pivot-q, in_default}

pub returns-then-pivot-q : goal.returns-then-pivot-q
returns-then-pivot-q g c =
    pivot_here c.args.rows.now c.loop-k.k c.in-Some.row.now c.args.q c.in-Some.ensures c.loop-k.invariant (sym c.pivot.ensures ∙ c.if-pivot-q.true)

pub loop-k-preserved : goal.loop-k-preserved
loop-k-preserved g c =
    elim c.match-get.branch [
      | in-Some+else-pivot-q w ↦
          pivot_next c.args.rows.now c.loop-k.k w.in-Some.row.now c.args.q w.in-Some.ensures c.loop-k.invariant (λ e. w.if-pivot-q.false (w.pivot.ensures ∙ e))
      | in_default w ↦ absurd (none_left c.args.rows.now c.loop-k.k (omega arith) w.in_default.ensures)
    ]
