use Rattle.std.proofs.Common.{◌≡◌, subst, ap, ◌∙◌}
use Rattle.fpl_numbers.specs.Numbers.{residue}
use Rattle.fpl_model.specs.declared.expr.Expr.TheVariants.{Times}
use Rattle.fpl_forms.specs.Ledgers.{PlainLedger, IsSoundLedger}
use Rattle.fpl_forms.specs.Forms.{term_expr}
use Rattle.fpl_forms.specs.Combining.{scaled}
use Rattle.fpl_forms.proofs.Next.{next_as}
use Rattle.fpl_forms.proofs.Combined.{multiply_next}
use Rattle.fpl_forms.proofs.ledger.Ledger.multiply.Goals as goal

pub push-requires : goal.push-requires
push-requires c =
    let L = c.args.self.now in
    let sound = subst IsSoundLedger c.self.view_is c.self.invariant in
    let prime : c.self.inside.prime ≡ L.prime = ap (λ (L : PlainLedger). L.prime) c.self.view_is in
    next_as L sound (c.in_ok-left.ensures ∙ ap (λ x. Times (residue c.args.number) x) c.in_ok-term_expr.ensures)
    (c.in_ok-right.ensures ∙ ap (term_expr c.args.atoms.now) (c.scaled.ensures ∙ ap (λ q. scaled q c.args.number c.args.t) prime))
    (multiply_next L sound c.args.atoms.now c.requires.atoms c.args.number c.args.t c.requires.number c.requires.term)
