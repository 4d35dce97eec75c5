use Rattle.std.proofs.Common.{ap, subst, ◌∙◌}
use Rattle.fpl_model.specs.declared.expr.Expr.TheVariants.{Sum}
use Rattle.fpl_forms.specs.Forms.{IsWork}
use Rattle.fpl_table_facts.proofs.Rowed.{row_after, sum_form, sum_numbers}
use Rattle.fpl_table_facts.proofs.Grown.{grows_known, grows_next}
use Rattle.fpl_table_facts.proofs.rows.sum_row.Goals as goal

pub returns-clause-row : goal.returns-clause-row
returns-clause-row c =
    let L = c.args.ledger.now in
    let M = c.sum.new.self in
    let k = c.args.known.now in
    let n = c.args.next.now in
    let es = c.args.members.now in
    let fs = c.args.facts.now in
    let f = c.in_ok-row in
    row_after f.ensures.grows k n (Sum es) f.row
    (record { work = subst (λ es. IsWork M es f.row) c.deref.ensures.value f.ensures.work; left = f.ensures.left ∙ ap Sum c.requires.facts.lefts_are })
    (sum_form L c.sound.ensures k n es fs c.requires.facts f.row.terms.items f.ensures.terms)
    (sum_numbers L c.sound.ensures k n es fs c.requires.facts f.row.terms.items f.ensures.terms)

pub returns-clause-known : goal.returns-clause-known
returns-clause-known c = grows_known c.in_ok-row.ensures.grows c.requires.known

pub returns-clause-next : goal.returns-clause-next
returns-clause-next c = grows_next c.in_ok-row.ensures.grows c.requires.next
