use Rattle.std.proofs.Common.{subst}
use Rattle.fpl_table_facts.specs.Rows.{IsDue}
use Rattle.fpl_table_facts.proofs.Due.{due_factor}
use Rattle.fpl_table_facts.proofs.rows.factor_due.Goals as goal

pub returns-clause-number : goal.returns-clause-number
returns-clause-number c =
    let p = c.args.p.now in
    let d = c.args.known.now.table.weight in
    (due_factor p d c.args.c c.args.factor.now (subst (IsDue p d) c.requires.multiple c.requires.due)).0

pub returns-clause-due : goal.returns-clause-due
returns-clause-due c =
    let p = c.args.p.now in
    let d = c.args.known.now.table.weight in
    (due_factor p d c.args.c c.args.factor.now (subst (IsDue p d) c.requires.multiple c.requires.due)).1
