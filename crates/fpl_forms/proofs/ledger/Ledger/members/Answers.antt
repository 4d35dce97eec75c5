use Rattle.std.proofs.Common.{subst, ◌∙◌, ap₂}
use Rattle.fpl_model.specs.declared.expr.Expr.TheVariants.{Br}
use Rattle.fpl_forms.specs.Ledgers.{IsSoundLedger}
use Rattle.fpl_forms.proofs.Next.{next_as, next_members}
use Rattle.fpl_forms.proofs.ledger.Ledger.members.Goals as goal

pub push-requires : goal.push-requires
push-requires c =
    let sound = subst IsSoundLedger c.self.view_is c.self.invariant in
    next_as c.args.self.now sound (c.in_ok-left.ensures ∙ ap₂ (λ a b. Br a b) c.line.ensures.left c.line-2.ensures.left)
    (c.in_ok-right.ensures ∙ ap₂ (λ a b. Br a b) c.line-3.ensures.right c.line-4.ensures.right)
    (next_members c.args.self.now sound c.args.n c.args.m c.requires.first c.requires.second)
