use Rattle.std.proofs.Common.{◌≡◌, ◌++◌, ◌∙◌, subst, ap, ap₂}
use Rattle.fpl_forms.specs.Ledgers.{IsSoundLedger}
use Rattle.fpl_forms.specs.Combining.{half_expr}
use Rattle.fpl_forms.proofs.Next.{next_as}
use Rattle.fpl_forms.proofs.Combined.{flat_next}
use Rattle.fpl_forms.proofs.ledger.Ledger.flat.Goals as goal

pub follow-requires-clause-next : goal.follow-requires-clause-next
follow-requires-clause-next c =
    let L = c.args.self.now in
    let sound = subst IsSoundLedger c.self.view_is c.self.invariant in
    next_as L sound c.requires.part.right
    (c.in_ok-right.ensures ∙ ap (half_expr c.args.atoms.now c.args.front.now)
    (c.deref-3.ensures.value ∙ c.in_ok-terms.ensures ∙ ap₂ (λ xs ys. xs ++ ys) c.deref.ensures.value c.deref-2.ensures.value))
    (flat_next L sound c.args.atoms.now c.requires.atoms c.args.front.now c.args.last.now c.args.part.terms.items c.in_ok-member_number.field-0
    c.in_ok-member_number.ensures c.requires.front c.requires.last c.requires.part.terms)
