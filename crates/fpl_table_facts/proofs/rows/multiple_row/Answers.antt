use Rattle.std.proofs.Common.{◌<◌, ap₂, subst, ◌∙◌}
use Rattle.fpl_model.specs.declared.expr.Expr.TheVariants.{Times}
use Rattle.fpl_forms.specs.Forms.{IsWork}
use Rattle.fpl_table_facts.proofs.Rowed.{row_after, multiple_form, multiple_numbers}
use Rattle.fpl_table_facts.proofs.Grown.{grows_known, grows_next}
use Rattle.fpl_table_facts.proofs.rows.multiple_row.Goals as goal

pub returns-clause-row : goal.returns-clause-row
returns-clause-row c =
    let L = c.args.ledger.now in
    let M = c.times.new.self in
    let k = c.args.known.now in
    let n = c.args.next.now in
    let e = c.args.e.now in
    let x = c.args.factor.now in
    let f = c.in_ok-row in
    let r = c.residue_part-residue in
    let lt = subst (λ q. r.result < q) c.prime.ensures r.ensures.below in
    row_after f.ensures.grows k n (Times c.args.number e) f.row
    (record { work = subst (λ es. IsWork M es f.row) c.deref.ensures.value f.ensures.work; left = f.ensures.left ∙ ap₂ Times r.ensures.value c.requires.factor.fact.left })
    (multiple_form L c.sound.ensures k n r.result e x c.requires.factor lt f.row.terms.items f.ensures.terms)
    (multiple_numbers L c.sound.ensures k n r.result c.args.number e x c.requires.factor lt r.ensures.value f.row.terms.items f.ensures.terms)

pub returns-clause-known : goal.returns-clause-known
returns-clause-known c = grows_known c.in_ok-row.ensures.grows c.requires.known

pub returns-clause-next : goal.returns-clause-next
returns-clause-next c = grows_next c.in_ok-row.ensures.grows c.requires.next
