use Rattle.std.proofs.Common.{◌≡◌, ◌∙◌, subst, sym, ap, map, length}
use Rattle.fpl_model.specs.declared.expr.Expr.TheVariants.{Sum}
use Rattle.fpl_forms.specs.Ledgers.{PlainLedger, IsSoundLedger}
use Rattle.fpl_forms.specs.Combining.{scaled}
use Rattle.fpl_forms.proofs.Ledgers.{grows_trans, grows_right}
use Rattle.fpl_forms.proofs.Moves.{grows_terms}
use Rattle.fpl_forms.proofs.Combined.{scaled_work}
use Rattle.fpl_forms.proofs.ledger.Ledger.times.Goals as goal

pub chain-requires-clause-meet : goal.chain-requires-clause-meet
chain-requires-clause-meet c =
    let says = c.in_ok-spread.ensures.says in
    let parts = c.in_ok-parts.ensures.says in
    grows_right (grows_trans c.in_ok-each.ensures.grows c.in_ok-parts.ensures.grows) c.in_ok-spread.spread (says.from_one, says.to_end) ∙ says.right ∙
    sym (parts.left ∙ ap (λ es. Sum es) c.in_ok-each.ensures.lefts)

pub drop_zeros-requires-clause-work : goal.drop_zeros-requires-clause-work
drop_zeros-requires-clause-work c =
    let C = c.chain.new.self in
    let sound = subst IsSoundLedger c.self.view_is c.self.invariant in
    let says = c.in_ok-line.ensures.says in
    let atoms = c.args.atoms.now in
    let ts = c.args.sum.now.terms.items in
    let after = grows_trans c.in_ok-each.ensures.grows (grows_trans c.in_ok-parts.ensures.grows c.in_ok-line.ensures.grows) in
    let all = grows_trans c.in_ok-spread.ensures.grows after in
    scaled_work C sound atoms c.args.number ts _ _ _ after.prime (ap (λ (L : PlainLedger). L.prime) c.self.view_is) (says.from_one, says.to_end)
    (says.right ∙ c.in_ok-parts.ensures.says.right ∙ ap (λ es. Sum es) c.in_ok-each.ensures.rights)
    (c.in_ok-terms.ensures ∙ ap (map (scaled c.self.inside.prime c.args.number)) c.deref.ensures.value) (grows_terms all (length atoms) ts c.requires.work.terms)

pub returns-clause-grows : goal.returns-clause-grows
returns-clause-grows c =
    grows_trans c.in_ok-spread.ensures.grows
    (grows_trans c.in_ok-each.ensures.grows
    (grows_trans c.in_ok-parts.ensures.grows (grows_trans c.in_ok-line.ensures.grows c.in_ok-kept.ensures.grows)))
