use Rattle.std.proofs.Common.{◌<◌, ◌∙◌, subst, sym, ap, length}
use Rattle.fpl_numbers.specs.Numbers.{residue}
use Rattle.fpl_model.specs.declared.expr.Expr.TheVariants.{Times}
use Rattle.fpl_forms.specs.Ledgers.{IsSoundLedger}
use Rattle.fpl_forms.specs.Combining.{spread_expr}
use Rattle.fpl_forms.proofs.Ledgers.{grows_trans}
use Rattle.fpl_forms.proofs.Next.{next_as}
use Rattle.fpl_forms.proofs.Moves.{grows_atoms, grows_terms}
use Rattle.fpl_forms.proofs.Combined.{spread_next}
use Rattle.fpl_forms.proofs.ledger.Ledger.spread.Goals as goal

pub follow-requires-clause-next : goal.follow-requires-clause-next
follow-requires-clause-next c =
    let M = c.factor.new.self in
    let sound = subst IsSoundLedger c.self.view_is c.self.invariant in
    let g = c.in_ok-whole.ensures.grows in
    let atoms = c.args.atoms.now in
    let work = c.requires.work in
    next_as M sound (c.in_ok-whole.ensures.says.right ∙ ap (λ x. Times (residue c.args.number) x) work.right)
    (c.in_ok-right.ensures ∙ ap (spread_expr c.args.number atoms) c.deref.ensures.value)
    (spread_next M sound atoms (grows_atoms g atoms c.requires.atoms) c.args.number c.args.sum.now.terms.items
    (subst (λ q. c.args.number < q) (sym g.prime) c.requires.number) (grows_terms g (length atoms) c.args.sum.now.terms.items work.terms))

pub returns-clause-grows : goal.returns-clause-grows
returns-clause-grows c = grows_trans c.in_ok-whole.ensures.grows c.in_ok-spread.ensures.grows
