use Rattle.std.proofs.Common.{◌≡◌, ◌+◌, suc, List, map, ap₂, sym, subst, ◌∙◌, All}
use Rattle.fpl_model.specs.declared.expr.Expr.TheVariants.{Br}
use Rattle.fpl_table.specs.Plain.{plain_basis}
use Rattle.fpl_forms.specs.declared.term.Term.{Term}
use Rattle.fpl_forms.specs.declared.term.Fact.{Fact}
use Rattle.fpl_forms.specs.Forms.{IsWork}
use Rattle.fpl_forms.proofs.Ledgers.{grows_trans}
use Rattle.fpl_table_facts.specs.Rows.{AreLeaves}
use Rattle.fpl_table_facts.proofs.Grown.{grows_form_of, grows_known, grows_next}
use Rattle.fpl_table_facts.proofs.Due.{due_pair}
use Rattle.fpl_table_facts.proofs.Rowed.{row_after, weights_sum, bracket_form, bracket_numbers}
use Rattle.fpl_table_facts.proofs.bracket_rows.bracket_row.Goals as goal

pub leaves-requires-clause-weights : goal.leaves-requires-clause-weights
leaves-requires-clause-weights c =
    let L = c.args.ledger.now in
    let k = c.args.known.now in
    let n = c.args.next.now in
    let T = k.table in
    let a = c.args.a.now in
    let b = c.args.b.now in
    let x = c.args.left.now in
    let y = c.args.right.now in
    let pair = due_pair L.presentation T.weight a b c.requires.due in
    let both = pair.both c.requires.some_a c.requires.some_b in
    let all = weights_sum L c.sound.ensures k n c.requires.known a b x y both.left both.right pair.left pair.right c.requires.left c.requires.right
    both.is_left both.is_right both.sum in
    subst (λ ss. All (λ (s : Term). All (λ (t : Term). (plain_basis T s.atom).weight + (plain_basis T t.atom).weight ≡ suc T.weight) c.deref-2.result.now) ss)
    (sym c.deref.ensures.value)
    (subst (λ ts. All (λ (s : Term). All (λ (t : Term). (plain_basis T s.atom).weight + (plain_basis T t.atom).weight ≡ suc T.weight) ts) x.terms.items)
    (sym c.deref-2.ensures.value) all)

pub returns-clause-known : goal.returns-clause-known
returns-clause-known c = grows_known (grows_trans c.in_ok-rows.ensures.grows c.in_ok-row.ensures.grows) c.requires.known

pub returns-clause-next : goal.returns-clause-next
returns-clause-next c = grows_next (grows_trans c.in_ok-rows.ensures.grows c.in_ok-row.ensures.grows) c.requires.next

pub returns-clause-row : goal.returns-clause-row
returns-clause-row c =
    let M = c.leaves.new.ledger in
    let k = c.args.known.now in
    let n = c.args.next.now in
    let a = c.args.a.now in
    let b = c.args.b.now in
    let x = c.args.left.now in
    let y = c.args.right.now in
    let f = c.in_ok-row in
    let g = c.in_ok-rows.ensures.grows in
    let known = grows_known g c.requires.known in
    let fa = grows_form_of g c.requires.left in
    let fb = grows_form_of g c.requires.right in
    let rows : List (List Fact) = map (λ r. r.items) c.deref-5.result.now in
    let are : AreLeaves M k n c.deref.result.now c.deref-2.result.now rows =
    subst (λ rs. AreLeaves M k n c.deref.result.now c.deref-2.result.now (map (λ r. r.items) rs)) (sym c.deref-5.ensures.value) c.in_ok-rows.ensures.rows in
    let here : AreLeaves M k n x.terms.items y.terms.items rows =
    subst (λ ss. AreLeaves M k n ss y.terms.items rows) c.deref.ensures.value
    (subst (λ ts. AreLeaves M k n c.deref.result.now ts rows) c.deref-2.ensures.value are) in
    row_after f.ensures.grows k n (Br a b) f.row
    (record {
      work = subst (λ es. IsWork c.bracket.new.self es f.row) c.deref-4.ensures.value f.ensures.work;
      left = f.ensures.left ∙ ap₂ Br fa.fact.left fb.fact.left;
    })
    (bracket_form M c.sound-2.ensures k n known a b x y rows fa fb here f.row.terms.items f.ensures.terms)
    (bracket_numbers M c.sound-2.ensures k n known a b x y rows fa fb here f.row.terms.items f.ensures.terms)
