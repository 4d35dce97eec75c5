use Rattle.std.proofs.Common.{◌≡◌, ◌+◌, ◌-◌, ap, sym, subst, arith}
use Rattle.fpl_model.specs.declared.expr.Expr.TheVariants.{Gen}
use Rattle.plain_tables.specs.Holds.{Holds}
use Rattle.fpl_table_facts.proofs.Grown.{grows_known, grows_next}
use Rattle.fpl_table_facts.proofs.Due.{due_gen, generator_due}
use Rattle.fpl_table_facts.proofs.LeafRows.{row_as}
use Rattle.fpl_table_facts.proofs.RowValues.{row_generator}
use Rattle.fpl_table_facts.proofs.rows.generator_row.Goals as goal

pub symbol_once-requires-clause-numbered : goal.symbol_once-requires-clause-numbered
symbol_once-requires-clause-numbered c = (due_gen c.args.p.now c.args.known.now.table.weight c.args.g c.requires.due).from

pub symbol_once-requires-clause-listed : goal.symbol_once-requires-clause-listed
symbol_once-requires-clause-listed c =
    let p = c.args.p.now in
    let T = c.args.known.now.table in
    generator_due p T (subst (λ q. Holds q T) (sym c.requires.presentation) c.requires.known.holds) c.args.g (due_gen p T.weight c.args.g c.requires.due)

pub returns-clause-row : goal.returns-clause-row
returns-clause-row c =
    let M = c.symbol_once.new.ledger in
    let k = c.args.known.now in
    let g = c.args.g in
    let from = (due_gen c.args.p.now k.table.weight g c.requires.due).from in
    let back : g - 1 + 1 ≡ g = omega (arith, from) in
    row_as M k c.args.next.now _ (Gen g) _ _ c.in_ok-row.row (ap Gen back)
    (row_generator M.presentation k.table (grows_known c.in_ok-row.ensures.grows c.requires.known).holds g) c.in_ok-row.ensures.row

pub returns-clause-known : goal.returns-clause-known
returns-clause-known c = grows_known c.in_ok-row.ensures.grows c.requires.known

pub returns-clause-next : goal.returns-clause-next
returns-clause-next c = grows_next c.in_ok-row.ensures.grows c.requires.next
