use Rattle.std.proofs.Common.{ap, ◌∙◌}
use Rattle.fpl_model.specs.declared.expr.Expr.TheVariants.{Br}
use Rattle.fpl_forms.proofs.Next.{next_as}
use Rattle.fpl_facts.specs.Axioms.{sign_number, jacobi_sum}
use Rattle.fpl_facts.proofs.NextAxioms.{next_jacobi}
use Rattle.fpl_facts.proofs.axioms.jacobi.Goals as goal

pub push-requires : goal.push-requires
push-requires c =
    let L = c.args.ledger.now in
    let t = c.args.parities.0 in
    let u = c.args.parities.1 in
    let number = c.sign_number-number.ensures ∙ ap (λ q. sign_number q t u) c.prime.ensures in
    next_as L c.sound.ensures (c.in_ok-left.ensures ∙ ap (Br c.args.a.now) c.in_ok-inner.ensures)
    (c.in_ok-right.ensures ∙ ap (λ n. jacobi_sum n c.args.a.now c.args.b.now c.args.c.now) number)
    (next_jacobi L c.sound.ensures t u c.args.parities.2 c.args.a.now c.args.b.now c.args.c.now c.requires.left c.requires.middle c.requires.right
    c.requires.first c.requires.second c.requires.third)
