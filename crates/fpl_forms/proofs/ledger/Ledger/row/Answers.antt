use Rattle.std.proofs.Common.{◌≡◌, ◌<◌, ◌∙◌, subst, sym, ap, ap₂, map, flat_map, length, All}
use Rattle.std.proofs.lemmas.List.Elements.{All-get_or}
use Rattle.fpl_model.specs.declared.expr.Expr.{Expr}
use Rattle.fpl_model.specs.declared.expr.Expr.TheVariants.{Zero, Sum, Times, Br}
use Rattle.fpl_numbers.specs.Numbers.{residue}
use Rattle.fpl_forms.specs.declared.term.Term.{Term}
use Rattle.fpl_forms.specs.declared.term.Fact.{Fact}
use Rattle.fpl_forms.specs.Ledgers.{IsSoundLedger, IsExpr}
use Rattle.fpl_forms.specs.Forms.{IsWork, term_expr, sum_expr, tidied}
use Rattle.fpl_forms.specs.Combining.{lefts, joined, pair_of, multiplied}
use Rattle.fpl_forms.proofs.Ledgers.{grows_trans}
use Rattle.fpl_forms.proofs.Moves.{grows_atoms, grows_terms, terms_over, sum_over}
use Rattle.fpl_forms.proofs.Rows.{right_map}
use Rattle.fpl_forms.proofs.ledger.Ledger.row.Goals as goal

pub right_each-requires-clause-left : goal.right_each-requires-clause-left
right_each-requires-clause-left c =
    let p = c.args.self.now.presentation in
    subst (IsExpr p) (sym c.atom_of-x.ensures) (All-get_or (IsExpr p) c.args.atoms.now c.args.t.atom Zero c.requires.term.0 c.requires.atoms)

pub right_each-requires-clause-lefts : goal.right_each-requires-clause-lefts
right_each-requires-clause-lefts c =
    c.requires.lefts ∙ ap (λ x. map (pair_of c.args.atoms.now x) c.args.second.now.terms.items) (sym c.atom_of-x.ensures)

pub sum_right-requires-clause-values : goal.sum_right-requires-clause-values
sum_right-requires-clause-values c = grows_atoms c.in_ok-each.ensures.grows c.args.values.now c.requires.values

pub sum_right-requires-clause-left : goal.sum_right-requires-clause-left
sum_right-requires-clause-left c =
    let p = c.args.self.now.presentation in
    subst (λ p. IsExpr p c.atom_of-x.result.now) (sym c.in_ok-each.ensures.grows.presentation)
    (subst (IsExpr p) (sym c.atom_of-x.ensures) (All-get_or (IsExpr p) c.args.atoms.now c.args.t.atom Zero c.requires.term.0 c.requires.atoms))

pub sum_right-requires-clause-right : goal.sum_right-requires-clause-right
sum_right-requires-clause-right c =
    let R = c.right_each.new.self in
    let g = c.in_ok-each.ensures.grows in
    let sound = subst IsSoundLedger c.self.view_is c.self.invariant in
    let atoms = c.args.atoms.now in
    let ts = c.args.second.now.terms.items in
    subst (All (IsExpr R.presentation)) (sym (c.deref-2.ensures.value ∙ c.in_ok-xs.ensures ∙ ap (map (term_expr atoms)) c.deref.ensures.value))
    (terms_over R sound atoms (grows_atoms g atoms c.requires.atoms) ts (grows_terms g (length atoms) ts c.requires.terms))

pub sum_right-requires-clause-facts : goal.sum_right-requires-clause-facts
sum_right-requires-clause-facts c =
    subst (All (IsWork c.right_each.new.self c.args.values.now)) (sym c.deref-3.ensures.value) c.in_ok-each.ensures.facts.works

pub sum_right-requires-clause-lefts : goal.sum_right-requires-clause-lefts
sum_right-requires-clause-lefts c =
    let atoms = c.args.atoms.now in
    let x = c.atom_of-x.result.now in
    let ts = c.args.second.now.terms.items in
    ap (lefts c.right_each.new.self) c.deref-3.ensures.value ∙ c.in_ok-each.ensures.facts.lefts_are ∙ right_map atoms x ts ∙
    ap (map (λ e. Br x e)) (sym (c.deref-2.ensures.value ∙ c.in_ok-xs.ensures ∙ ap (map (term_expr atoms)) c.deref.ensures.value))

pub times_left-requires-clause-values : goal.times_left-requires-clause-values
times_left-requires-clause-values c =
    grows_atoms (grows_trans c.in_ok-each.ensures.grows c.in_ok-all.ensures.grows) c.args.values.now c.requires.values

pub times_left-requires-clause-number : goal.times_left-requires-clause-number
times_left-requires-clause-number c =
    subst (λ q. c.args.t.number < q) (sym (grows_trans c.in_ok-each.ensures.grows c.in_ok-all.ensures.grows).prime) c.requires.term.1

pub times_left-requires-clause-left : goal.times_left-requires-clause-left
times_left-requires-clause-left c =
    let p = c.args.self.now.presentation in
    subst (λ p. IsExpr p c.atom_of-x.result.now) (sym (grows_trans c.in_ok-each.ensures.grows c.in_ok-all.ensures.grows).presentation)
    (subst (IsExpr p) (sym c.atom_of-x.ensures) (All-get_or (IsExpr p) c.args.atoms.now c.args.t.atom Zero c.requires.term.0 c.requires.atoms))

pub times_left-requires-clause-right : goal.times_left-requires-clause-right
times_left-requires-clause-right c =
    let R = c.right_each.new.self in
    let g = c.in_ok-each.ensures.grows in
    let sound = subst IsSoundLedger c.self.view_is c.self.invariant in
    let atoms = c.args.atoms.now in
    let ts = c.args.second.now.terms.items in
    subst (λ p. IsExpr p c.in_ok-whole.whole) (sym c.in_ok-all.ensures.grows.presentation)
    (subst (IsExpr R.presentation) (sym (c.in_ok-whole.ensures ∙ ap (sum_expr atoms) c.deref-4.ensures.value))
    (sum_over R sound atoms (grows_atoms g atoms c.requires.atoms) ts (grows_terms g (length atoms) ts c.requires.terms)))

pub times_left-requires-clause-bracket : goal.times_left-requires-clause-bracket
times_left-requires-clause-bracket c =
    let atoms = c.args.atoms.now in
    let x = c.atom_of-x.result.now in
    c.in_ok-all.ensures.left ∙
    ap (λ es. Br x (Sum es)) (c.deref-2.ensures.value ∙ c.in_ok-xs.ensures ∙ ap (map (term_expr atoms)) c.deref.ensures.value) ∙
    sym (ap (λ e. Br x e) (c.in_ok-whole.ensures ∙ ap (sum_expr atoms) c.deref-4.ensures.value))

pub returns-clause-grows : goal.returns-clause-grows
returns-clause-grows c = grows_trans c.in_ok-each.ensures.grows (grows_trans c.in_ok-all.ensures.grows c.in_ok-multiple.ensures.grows)

pub returns-clause-left : goal.returns-clause-left
returns-clause-left c =
    let atoms = c.args.atoms.now in
    c.in_ok-multiple.ensures.left ∙
    ap₂ (λ x e. Br (Times (residue c.args.t.number) x) e) c.atom_of-x.ensures (c.in_ok-whole.ensures ∙ ap (sum_expr atoms) c.deref-4.ensures.value)

pub returns-clause-terms : goal.returns-clause-terms
returns-clause-terms c =
    let q = c.args.self.now.prime in
    let n = c.args.t.number in
    c.in_ok-multiple.ensures.terms ∙
    ap₂ (λ p us. multiplied p n us) (grows_trans c.in_ok-each.ensures.grows c.in_ok-all.ensures.grows).prime
    (c.in_ok-all.ensures.terms ∙ ap₂ (λ p fs. tidied p (joined fs)) c.in_ok-each.ensures.grows.prime c.deref-3.ensures.value ∙
    ap (λ tss. tidied q (flat_map (λ ts. ts) tss)) c.in_ok-each.ensures.facts.terms_are)
