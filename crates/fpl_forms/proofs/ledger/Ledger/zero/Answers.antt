use Rattle.std.proofs.Common.{◌≡◌, ◌∙◌, subst, ap, refl, get_or}
use Rattle.fpl_numbers.specs.Numbers.{residue}
use Rattle.fpl_model.specs.declared.expr.Expr.TheVariants.{Zero, Times}
use Rattle.fpl_forms.specs.Ledgers.{IsSoundLedger, IsExpr}
use Rattle.fpl_forms.proofs.Next.{next_as, next_nought}
use Rattle.fpl_forms.proofs.Moves.{term_over}
use Rattle.fpl_forms.proofs.ledger.Ledger.zero.Goals as goal

pub push-requires : goal.push-requires
push-requires c =
    let L = c.args.self.now in
    let sound = subst IsSoundLedger c.self.view_is c.self.invariant in
    let e = get_or c.args.atoms.now c.args.t.atom Zero in
    let none : c.args.t.number ≡ 0 = c.if-t-eq0.true in
    let over =
    subst (λ n. IsExpr L.presentation (Times (residue n) e)) none (term_over L sound c.args.atoms.now c.requires.atoms c.args.t c.requires.term) in
    next_as L sound (c.in_ok-left.ensures ∙ ap (λ n. Times (residue n) e) none) refl (next_nought L sound e over)
