use Rattle.std.proofs.Common.{subst, ◌∙◌, ap}
use Rattle.fpl_numbers.specs.Numbers.{residue}
use Rattle.fpl_model.specs.declared.expr.Expr.TheVariants.{Times}
use Rattle.fpl_forms.specs.Ledgers.{IsSoundLedger}
use Rattle.fpl_forms.proofs.Next.{next_as, next_factor}
use Rattle.fpl_forms.proofs.ledger.Ledger.factor.Goals as goal

pub push-requires : goal.push-requires
push-requires c =
    let sound = subst IsSoundLedger c.self.view_is c.self.invariant in
    next_as c.args.self.now sound (c.in_ok-left.ensures ∙ ap (λ e. Times (residue c.args.number) e) (c.in_ok-copy.ensures ∙ c.line.ensures.left))
    (c.in_ok-right.ensures ∙ ap (λ e. Times (residue c.args.number) e) (c.in_ok-copy-2.ensures ∙ c.line-2.ensures.right))
    (next_factor c.args.self.now sound c.args.number c.args.n c.requires.number c.requires.line)
