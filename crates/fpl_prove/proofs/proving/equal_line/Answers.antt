use Rattle.std.proofs.Common.{◌≡◌, sym, ap, ◌∙◌}
use Rattle.fpl_forms.specs.Forms.{sum_expr}
use Rattle.fpl_forms.proofs.Ledgers.{grows_trans, grows_right}
use Rattle.fpl_table_facts.proofs.Grown.{grows_known, grows_form_of}
use Rattle.fpl_prove.proofs.Queries.{sides_are_reached}
use Rattle.fpl_prove.proofs.Compared.{are_alike, are_other, values_same, values_differ}
use Rattle.fpl_prove.proofs.proving.equal_line.Goals as goal

pub value-requires-clause-reached : goal.value-requires-clause-reached
value-requires-clause-reached c =
    (sides_are_reached c.args.p.now c.args.ledger.now.presentation c.requires.presentation c.args.query.now c.requires.query c.requires.small
    c.args.known.now.table.weight c.requires.within).0

pub value-requires-2-clause-reached : goal.value-requires-2-clause-reached
value-requires-2-clause-reached c =
    (sides_are_reached c.args.p.now c.args.ledger.now.presentation c.requires.presentation c.args.query.now c.requires.query c.requires.small
    c.args.known.now.table.weight c.requires.within).1

pub returns-then-ne-clause-differ : goal.returns-then-ne-clause-differ
returns-then-ne-clause-differ c =
    let L = c.value-2.new.ledger in
    let before = grows_trans c.in_ok-left.ensures.grows c.in_ok-right.ensures.grows in
    λ e one. values_differ L c.args.known.now c.args.query.now c.sound.ensures (grows_known before c.requires.known) c.in_ok-left.left c.in_ok-right.right
    (grows_form_of c.in_ok-right.ensures.grows c.in_ok-left.ensures.form) c.in_ok-right.ensures.form c.args.ledger.now.presentation before.presentation
    (are_other _ _ _ _ c.ne.result c.ne.ensures c.if-ne.true c.as_slice.ensures.value c.as_slice-2.ensures.value) one

pub equal-requires-clause-meet : goal.equal-requires-clause-meet
equal-requires-clause-meet c =
    let same : c.in_ok-left.left.terms.items ≡ c.in_ok-right.right.terms.items =
    are_alike _ _ _ _ c.ne.result c.ne.ensures c.if-ne.false c.as_slice.ensures.value c.as_slice-2.ensures.value in
    grows_right c.in_ok-right.ensures.grows c.in_ok-left.left.line c.in_ok-left.ensures.form.fact.work.within ∙
    c.in_ok-left.ensures.form.fact.work.right ∙ ap (sum_expr c.args.known.now.basis.items) same ∙ sym c.in_ok-right.ensures.form.fact.work.right

pub returns-clause-one : goal.returns-clause-one
returns-clause-one c =
    let L = c.value-2.new.ledger in
    let before = grows_trans c.in_ok-left.ensures.grows c.in_ok-right.ensures.grows in
    let same : c.in_ok-left.left.terms.items ≡ c.in_ok-right.right.terms.items =
    are_alike _ _ _ _ c.ne.result c.ne.ensures c.if-ne.false c.as_slice.ensures.value c.as_slice-2.ensures.value in
    λ e. values_same L c.args.known.now c.args.query.now c.sound.ensures (grows_known before c.requires.known) c.in_ok-left.left c.in_ok-right.right
    (grows_form_of c.in_ok-right.ensures.grows c.in_ok-left.ensures.form) c.in_ok-right.ensures.form c.args.ledger.now.presentation before.presentation same
