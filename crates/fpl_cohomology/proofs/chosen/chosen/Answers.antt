use Rattle.std.proofs.Common.{◌∙◌, arith}
use Rattle.fpl_echelon.proofs.Spanning.{none_left}
use Rattle.fpl_cohomology.proofs.Lines.{chosen_next}
use Rattle.fpl_cohomology.proofs.chosen.chosen.Goals as goal
use Rattle.fpl_cohomology.proofs.chosen.chosen.Goals.{in-Some+in_ok-push_chosen, in_default}

pub loop-k-preserved : goal.loop-k-preserved
loop-k-preserved g c =
    elim c.match-get.branch [
      | in-Some+in_ok-push_chosen w ↦
          chosen_next c.args.cocycles.now c.args.coboundaries.now c.loop-k.rows c.match-get.rows _ c.loop-k.k w.in-Some.row.now w.in-Some.ensures
          c.loop-k.invariant (w.rows-is ∙ w.in_ok-push_chosen.ensures)
      | in_default w ↦ absurd (none_left c.args.cocycles.now c.loop-k.k (omega arith) w.in_default.ensures)
    ]
