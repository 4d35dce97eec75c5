use Rattle.std.proofs.Common.{subst}
use Rattle.fpl_model.specs.declared.expr.Expr.TheVariants.{Zero}
use Rattle.fpl_forms.specs.Forms.{IsWork}
use Rattle.fpl_table_facts.specs.Rows.{expr_row}
use Rattle.fpl_table_facts.proofs.LeafRows.{nothing_row}
use Rattle.fpl_table_facts.proofs.RowValues.{row_Zero}
use Rattle.fpl_table_facts.proofs.Grown.{grows_known, grows_next}
use Rattle.fpl_table_facts.proofs.rows.zero_row.Goals as goal

pub returns-clause-row : goal.returns-clause-row
returns-clause-row c =
    let M = c.nothing.new.self in
    let T = c.args.known.now.table in
    let f = c.in_ok-row in
    nothing_row M c.args.known.now c.args.next.now c.sound.ensures Zero f.row (expr_row M.presentation T Zero) (row_Zero M.presentation T)
    (record { work = subst (λ es. IsWork M es f.row) c.deref.ensures.value f.ensures.work; left = f.ensures.left }) f.ensures.terms

pub returns-clause-known : goal.returns-clause-known
returns-clause-known c = grows_known c.in_ok-row.ensures.grows c.requires.known

pub returns-clause-next : goal.returns-clause-next
returns-clause-next c = grows_next c.in_ok-row.ensures.grows c.requires.next
