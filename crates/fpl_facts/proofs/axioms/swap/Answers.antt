use Rattle.std.proofs.Common.{ap, ap₂, ◌∙◌}
use Rattle.fpl_numbers.specs.Numbers.{residue}
use Rattle.fpl_model.specs.declared.expr.Expr.TheVariants.{Times}
use Rattle.fpl_forms.proofs.Next.{next_as}
use Rattle.fpl_facts.specs.Axioms.{swap_number}
use Rattle.fpl_facts.proofs.NextAxioms.{next_swap}
use Rattle.fpl_facts.proofs.axioms.swap.Goals as goal

pub push-requires : goal.push-requires
push-requires c =
    let L = c.args.ledger.now in
    let number = c.swap_number-number.ensures.value ∙ ap (λ q. swap_number q c.args.s c.args.t) c.prime.ensures in
    next_as L c.sound.ensures c.in_ok-left.ensures (c.in_ok-right.ensures ∙ ap₂ (λ n e. Times (residue n) e) number c.in_ok-turned.ensures)
    (next_swap L c.sound.ensures c.args.s c.args.t c.args.a.now c.args.b.now c.requires.left c.requires.right c.requires.first c.requires.second)
