use Rattle.std.proofs.Common.{subst}
use Rattle.fpl_table_facts.specs.Rows.{IsDue}
use Rattle.fpl_table_facts.proofs.Due.{due_members}
use Rattle.fpl_table_facts.proofs.rows.members_due.Goals as goal

pub returns : goal.returns
returns c =
    let p = c.args.p.now in
    let d = c.args.known.now.table.weight in
    due_members p d c.args.members.now (subst (IsDue p d) c.requires.sum c.requires.due)
