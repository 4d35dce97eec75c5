use Rattle.std.proofs.Common.{◌≡◌, ◌∙◌, subst, sym, ap, ap₂, map, flat_map, length, All}
use Rattle.std.specs.Simd.Lanes.{zip2}
use Rattle.fpl_model.specs.declared.expr.Expr.{Expr}
use Rattle.fpl_model.specs.declared.expr.Expr.TheVariants.{Sum, Br}
use Rattle.fpl_forms.specs.Ledgers.{IsSoundLedger, IsExpr}
use Rattle.fpl_forms.specs.Forms.{IsWork, term_expr, sum_expr, tidied}
use Rattle.fpl_forms.specs.Combining.{lefts, joined, times_row}
use Rattle.fpl_forms.proofs.Ledgers.{grows_trans, grows_left, grows_right, grows_within}
use Rattle.fpl_forms.proofs.Moves.{grows_atoms, grows_terms, terms_over, sum_over}
use Rattle.fpl_forms.proofs.Rows.{grows_rows, left_map}
use Rattle.fpl_forms.proofs.ledger.Ledger.bracket.Goals as goal

pub rows-requires-clause-atoms : goal.rows-requires-clause-atoms
rows-requires-clause-atoms c = grows_atoms c.in_ok-whole.ensures.grows c.args.atoms.now c.requires.atoms

pub rows-requires-clause-values : goal.rows-requires-clause-values
rows-requires-clause-values c = grows_atoms c.in_ok-whole.ensures.grows c.args.values.now c.requires.values

pub rows-requires-clause-firsts : goal.rows-requires-clause-firsts
rows-requires-clause-firsts c =
    grows_terms c.in_ok-whole.ensures.grows (length c.args.atoms.now) c.args.first.now.terms.items c.requires.first.terms

pub rows-requires-clause-terms : goal.rows-requires-clause-terms
rows-requires-clause-terms c =
    grows_terms c.in_ok-whole.ensures.grows (length c.args.atoms.now) c.args.second.now.terms.items c.requires.second.terms

pub rows-requires-clause-rows : goal.rows-requires-clause-rows
rows-requires-clause-rows c =
    grows_rows c.in_ok-whole.ensures.grows c.args.values.now c.args.atoms.now c.args.first.now.terms.items c.args.second.now.terms.items
    (map (λ r. r.items) c.args.rows.now) c.requires.rows

pub sum_left-requires-clause-values : goal.sum_left-requires-clause-values
sum_left-requires-clause-values c =
    grows_atoms (grows_trans c.in_ok-whole.ensures.grows c.in_ok-each.ensures.grows) c.args.values.now c.requires.values

pub sum_left-requires-clause-left : goal.sum_left-requires-clause-left
sum_left-requires-clause-left c =
    let R = c.rows.new.self in
    let g = grows_trans c.in_ok-whole.ensures.grows c.in_ok-each.ensures.grows in
    let sound = subst IsSoundLedger c.self.view_is c.self.invariant in
    let atoms = c.args.atoms.now in
    let ss = c.args.first.now.terms.items in
    subst (All (IsExpr R.presentation)) (sym (c.deref-3.ensures.value ∙ c.in_ok-xs.ensures ∙ ap (map (term_expr atoms)) c.deref.ensures.value))
    (terms_over R sound atoms (grows_atoms g atoms c.requires.atoms) ss (grows_terms g (length atoms) ss c.requires.first.terms))

pub sum_left-requires-clause-right : goal.sum_left-requires-clause-right
sum_left-requires-clause-right c =
    let R = c.rows.new.self in
    let g = grows_trans c.in_ok-whole.ensures.grows c.in_ok-each.ensures.grows in
    let sound = subst IsSoundLedger c.self.view_is c.self.invariant in
    let atoms = c.args.atoms.now in
    let ts = c.args.second.now.terms.items in
    subst (IsExpr R.presentation) (sym (c.in_ok-right.ensures ∙ ap (sum_expr atoms) c.deref-2.ensures.value))
    (sum_over R sound atoms (grows_atoms g atoms c.requires.atoms) ts (grows_terms g (length atoms) ts c.requires.second.terms))

pub sum_left-requires-clause-facts : goal.sum_left-requires-clause-facts
sum_left-requires-clause-facts c =
    subst (All (IsWork c.rows.new.self c.args.values.now)) (sym c.deref-4.ensures.value) c.in_ok-each.ensures.facts.works

pub sum_left-requires-clause-lefts : goal.sum_left-requires-clause-lefts
sum_left-requires-clause-lefts c =
    let atoms = c.args.atoms.now in
    let ss = c.args.first.now.terms.items in
    let ts = c.args.second.now.terms.items in
    ap (lefts c.rows.new.self) c.deref-4.ensures.value ∙ c.in_ok-each.ensures.facts.lefts_are ∙ left_map atoms (sum_expr atoms ts) ss ∙
    ap₂ (λ e xs. map (λ x. Br x e) xs) (sym (c.in_ok-right.ensures ∙ ap (sum_expr atoms) c.deref-2.ensures.value))
    (sym (c.deref-3.ensures.value ∙ c.in_ok-xs.ensures ∙ ap (map (term_expr atoms)) c.deref.ensures.value))

pub led-requires-clause-line : goal.led-requires-clause-line
led-requires-clause-line c =
    let says = c.in_ok-whole.ensures.says in
    grows_within (grows_trans c.in_ok-each.ensures.grows c.in_ok-all.ensures.grows) c.in_ok-whole.whole (says.from_one, says.to_end)

pub led-requires-clause-meet : goal.led-requires-clause-meet
led-requires-clause-meet c =
    let says = c.in_ok-whole.ensures.says in
    let atoms = c.args.atoms.now in
    grows_right (grows_trans c.in_ok-each.ensures.grows c.in_ok-all.ensures.grows) c.in_ok-whole.whole (says.from_one, says.to_end) ∙ says.right ∙
    ap₂ (λ x e. Br x e) c.requires.first.right c.requires.second.right ∙
    sym (c.in_ok-all.ensures.left ∙
    ap₂ (λ xs e. Br (Sum xs) e) (c.deref-3.ensures.value ∙ c.in_ok-xs.ensures ∙ ap (map (term_expr atoms)) c.deref.ensures.value)
    (c.in_ok-right.ensures ∙ ap (sum_expr atoms) c.deref-2.ensures.value))

pub returns-clause-grows : goal.returns-clause-grows
returns-clause-grows c =
    grows_trans c.in_ok-whole.ensures.grows
    (grows_trans c.in_ok-each.ensures.grows (grows_trans c.in_ok-all.ensures.grows c.in_ok-led.ensures.grows))

pub returns-clause-left : goal.returns-clause-left
returns-clause-left c =
    let says = c.in_ok-whole.ensures.says in
    c.in_ok-led.ensures.left ∙
    grows_left (grows_trans c.in_ok-each.ensures.grows c.in_ok-all.ensures.grows) c.in_ok-whole.whole (says.from_one, says.to_end) ∙ says.left

pub returns-clause-terms : goal.returns-clause-terms
returns-clause-terms c =
    let q = c.args.self.now.prime in
    let ss = c.args.first.now.terms.items in
    let ts = c.args.second.now.terms.items in
    c.in_ok-led.ensures.terms ∙ c.in_ok-all.ensures.terms ∙
    ap₂ (λ p fs. tidied p (joined fs)) (grows_trans c.in_ok-whole.ensures.grows c.in_ok-each.ensures.grows).prime c.deref-4.ensures.value ∙
    ap (λ tss. tidied q (flat_map (λ ts. ts) tss)) c.in_ok-each.ensures.facts.terms_are ∙
    ap (λ p. tidied q (flat_map (λ ts. ts) (zip2 (times_row p ts) ss (map (λ r. r.items) c.args.rows.now)))) c.in_ok-whole.ensures.grows.prime
