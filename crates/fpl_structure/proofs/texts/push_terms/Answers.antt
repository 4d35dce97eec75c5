use Rattle.std.proofs.Common.{◌∙◌, ap, arith}
use Rattle.fpl_echelon.proofs.Spanning.{none_left}
use Rattle.fpl_structure.proofs.Lines.{term_next}
use Rattle.fpl_structure.proofs.texts.push_terms.Goals as goal
use Rattle.fpl_structure.proofs.texts.push_terms.Goals.{in-Some+in_ok-push_term, in_default}

pub loop-k-preserved : goal.loop-k-preserved
loop-k-preserved g c =
    elim c.match-get.branch [
      | in-Some+in_ok-push_term w ↦
          term_next c.args.word _ c.loop-k.out.items c.match-get.out.items c.args.terms.now c.loop-k.k w.in-Some.rows.now w.in-Some.ensures c.loop-k.invariant
          (ap (λ v. v.items) w.out-is ∙ w.in_ok-push_term.ensures)
      | in_default w ↦ absurd (none_left c.args.terms.now c.loop-k.k (let a = c.len-k-end.ensures in omega arith) w.in_default.ensures)
    ]
