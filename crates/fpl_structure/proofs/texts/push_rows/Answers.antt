use Rattle.std.proofs.Common.{◌∙◌, ap, arith}
use Rattle.fpl_echelon.proofs.Spanning.{none_left}
use Rattle.fpl_structure.proofs.Lines.{row_next}
use Rattle.fpl_structure.proofs.texts.push_rows.Goals as goal
use Rattle.fpl_structure.proofs.texts.push_rows.Goals.{in-Some+in_ok-push_row, in_default}

pub loop-k-preserved : goal.loop-k-preserved
loop-k-preserved g c =
    elim c.match-get.branch [
      | in-Some+in_ok-push_row w ↦
          row_next _ c.loop-k.out.items c.match-get.out.items c.args.rows.now c.loop-k.k w.in-Some.row.now w.in-Some.ensures c.loop-k.invariant
          (ap (λ v. v.items) w.out-is ∙ w.in_ok-push_row.ensures)
      | in_default w ↦ absurd (none_left c.args.rows.now c.loop-k.k (let a = c.len-k-end.ensures.value in omega arith) w.in_default.ensures)
    ]
