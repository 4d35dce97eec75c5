use Rattle.std.proofs.Common.{subst, ap, ◌∙◌}
use Rattle.fpl_model.specs.declared.expr.Expr.TheVariants.{Br}
use Rattle.fpl_forms.specs.Ledgers.{IsSoundLedger}
use Rattle.fpl_forms.proofs.Next.{next_as}
use Rattle.fpl_forms.proofs.NextBrackets.{next_left_sum}
use Rattle.fpl_forms.proofs.ledger.Ledger.left_spread.Goals as goal

pub push-requires : goal.push-requires
push-requires c =
    let sound = subst IsSoundLedger c.self.view_is c.self.invariant in
    next_as c.args.self.now sound (c.in_ok-left.ensures ∙ ap (λ x. Br x c.args.e.now) c.in_ok-sum.ensures) c.in_ok-right.ensures
    (next_left_sum c.args.self.now sound c.args.xs.now c.args.e.now c.requires.left c.requires.right)
