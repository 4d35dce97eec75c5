use Rattle.std.proofs.Common.{length, ap, sym, subst, ◌∙◌}
use Rattle.fpl_model.specs.declared.expr.Expr.{Expr}
use Rattle.fpl_model.specs.declared.expr.Expr.TheVariants.{Br}
use Rattle.fpl_forms.specs.Ledgers.{left_of}
use Rattle.fpl_forms.specs.Forms.{IsWork}
use Rattle.fpl_forms.specs.Laws.{number_in, IsForm}
use Rattle.fpl_facts.specs.Facts.{IsFact}
use Rattle.fpl_table_facts.proofs.Weights.{void_terms}
use Rattle.fpl_table_facts.proofs.LeafRows.{empty_form}
use Rattle.fpl_table_facts.proofs.Rowed.{row_after, void_work, void_right_numbers}
use Rattle.fpl_table_facts.proofs.Grown.{grows_known, grows_next}
use Rattle.fpl_table_facts.proofs.bracket_rows.void_right_row.Goals as goal

pub void_right-requires-clause-work : goal.void_right-requires-clause-work
void_right-requires-clause-work c =
    let L = c.args.ledger.now in
    subst (λ es. IsWork L es c.args.right.now) (sym c.deref.ensures.value)
    (void_work L c.sound.ensures c.args.known.now c.args.next.now c.requires.known c.args.b.now c.args.right.now c.requires.right c.requires.form c.requires.void)

pub void_right-requires-clause-none : goal.void_right-requires-clause-none
void_right-requires-clause-none c =
    void_terms c.args.ledger.now c.sound.ensures c.args.known.now c.requires.known c.args.b.now c.args.right.now c.requires.right c.requires.form c.requires.void

pub returns-clause-row : goal.returns-clause-row
returns-clause-row c =
    let L = c.args.ledger.now in
    let M = c.void_right.new.ledger in
    let k = c.args.known.now in
    let n = c.args.next.now in
    let a = c.args.a.now in
    let b = c.args.b.now in
    let f = c.in_ok-row in
    row_after f.ensures.grows k n (Br a b) f.row
    (subst (λ (x : Expr). IsFact M n.trees.items x f.row) (ap (λ x. Br c.args.a.now x) c.requires.form.fact.left)
    (subst (λ es. IsFact M es (Br a (left_of L c.args.right.now.line)) f.row) c.deref.ensures.value f.ensures.fact))
    (subst (IsForm L.prime (length n.trees.items)) (sym f.ensures.terms) (empty_form L c.sound.ensures (length n.trees.items)))
    (λ i. ap (λ ts. number_in L.presentation.field ts i) f.ensures.terms ∙
    void_right_numbers L c.sound.ensures k n c.requires.known a b c.args.right.now c.requires.right c.requires.form c.requires.void i)

pub returns-clause-known : goal.returns-clause-known
returns-clause-known c = grows_known c.in_ok-row.ensures.grows c.requires.known

pub returns-clause-next : goal.returns-clause-next
returns-clause-next c = grows_next c.in_ok-row.ensures.grows c.requires.next
