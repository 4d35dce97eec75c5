use Rattle.std.proofs.Common.{subst, ap, ◌∙◌}
use Rattle.fpl_numbers.specs.Numbers.{residue}
use Rattle.fpl_model.specs.declared.expr.Expr.TheVariants.{Times, Br}
use Rattle.fpl_forms.specs.Ledgers.{IsSoundLedger}
use Rattle.fpl_forms.proofs.Next.{next_as}
use Rattle.fpl_forms.proofs.NextBrackets.{next_right_times}
use Rattle.fpl_forms.proofs.ledger.Ledger.right_multiple.Goals as goal

pub push-requires : goal.push-requires
push-requires c =
    let sound = subst IsSoundLedger c.self.view_is c.self.invariant in
    next_as c.args.self.now sound (c.in_ok-left.ensures ∙ ap (λ x. Br c.args.e.now x) c.in_ok-multiple_of.ensures)
    (c.in_ok-right.ensures ∙ ap (λ x. Times (residue c.args.number) x) c.in_ok-bracket.ensures)
    (next_right_times c.args.self.now sound c.args.e.now c.args.number c.args.x.now c.requires.left c.requires.number c.requires.right)
