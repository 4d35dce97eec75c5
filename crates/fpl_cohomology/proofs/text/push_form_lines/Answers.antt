use Rattle.std.proofs.Common.{◌∙◌, ap, arith}
use Rattle.fpl_echelon.proofs.Spanning.{none_left}
use Rattle.fpl_cohomology.proofs.Lines.{line_next}
use Rattle.fpl_cohomology.proofs.text.push_form_lines.Goals as goal
use Rattle.fpl_cohomology.proofs.text.push_form_lines.Goals.{in-Some+in_ok-push_form_line, in_default}

pub loop-k-preserved : goal.loop-k-preserved
loop-k-preserved g c =
    elim c.match-get.branch [
      | in-Some+in_ok-push_form_line w ↦
          line_next c.args.forms.now _ c.loop-k.out.items c.args.rows.now c.loop-k.k c.loop-k.invariant c.match-get.out.items w.in-Some.row.now
          w.in-Some.ensures (ap (λ v. v.items) w.out-is ∙ w.in_ok-push_form_line.ensures)
      | in_default w ↦ absurd (none_left c.args.rows.now c.loop-k.k (omega arith) w.in_default.ensures)
    ]
