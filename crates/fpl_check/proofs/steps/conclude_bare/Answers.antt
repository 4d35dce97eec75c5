use Rattle.std.proofs.Common.{◌-◌, length, sym, subst}
use Rattle.fpl_rows.specs.Meaning.{IsRowOf}
use Rattle.plain_elimination.proofs.RowSweeps.{got_is}
use Rattle.fpl_table.specs.Plain.{symbols_in}
use Rattle.fpl_check.proofs.Bare.{bare}
use Rattle.fpl_check.proofs.steps.conclude_bare.Goals as goal

pub returns-in-Ok-clause-value : goal.returns-in-Ok-clause-value
returns-in-Ok-clause-value g c =
    bare c.args.table.now.kind c.args.earlier.now (c.args.of - 1) c.args.start.now c.in-Ok.row c.args.terms.now c.requires.start c.requires.none c.in-Ok.ensures

pub returns-in-Ok-clause-row : goal.returns-in-Ok-clause-row
returns-in-Ok-clause-row g c =
    let kind = c.args.table.now.kind in
    let n = length (symbols_in c.args.table.now) in
    subst (IsRowOf kind n) (sym c.in-Ok.ensures) (got_is kind n (c.args.of - 1) c.args.earlier.now c.args.start.now c.requires.earlier c.requires.start)
