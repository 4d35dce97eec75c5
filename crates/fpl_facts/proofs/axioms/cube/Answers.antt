use Rattle.std.proofs.Common.{refl, ap, ◌∙◌}
use Rattle.fpl_model.specs.declared.expr.Expr.TheVariants.{Br}
use Rattle.fpl_forms.proofs.Next.{next_as}
use Rattle.fpl_facts.proofs.NextAxioms.{next_cube}
use Rattle.fpl_facts.proofs.axioms.cube.Goals as goal

pub push-requires : goal.push-requires
push-requires c =
    let L = c.args.ledger.now in
    next_as L c.sound.ensures (c.in_ok-left.ensures ∙ ap (Br c.args.a.now) c.in_ok-inner.ensures) refl
    (next_cube L c.sound.ensures c.args.a.now c.requires.three c.requires.over c.requires.odd)
