use Rattle.std.proofs.Common.{subst, refl, ap, ◌∙◌}
use Rattle.fpl_model.specs.declared.expr.Expr.TheVariants.{Sum}
use Rattle.fpl_forms.specs.Ledgers.{IsSoundLedger}
use Rattle.fpl_forms.proofs.Ledgers.{grows_trans}
use Rattle.fpl_forms.proofs.Next.{next_as}
use Rattle.fpl_forms.proofs.NextBrackets.{next_empty}
use Rattle.fpl_forms.proofs.ledger.Ledger.nothing.Goals as goal

pub push-requires : goal.push-requires
push-requires c =
    let sound = subst IsSoundLedger c.self.view_is c.self.invariant in
    next_as c.args.self.now sound (c.in_ok-left.ensures ∙ ap (λ es. Sum es) c.new-members.ensures) refl (next_empty c.args.self.now sound)

pub returns-clause-grows : goal.returns-clause-grows
returns-clause-grows c = grows_trans c.in_ok-empty.ensures.grows c.in_ok-line.ensures.grows
