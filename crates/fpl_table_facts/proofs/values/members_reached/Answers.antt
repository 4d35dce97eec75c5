use Rattle.std.proofs.Common.{subst}
use Rattle.fpl_table_facts.specs.Known.{IsReached}
use Rattle.fpl_table_facts.proofs.Reached.{reached_members}
use Rattle.fpl_table_facts.proofs.values.members_reached.Goals as goal

pub returns : goal.returns
returns c =
    let p = c.args.p.now in
    let d = c.args.known.now.table.weight in
    reached_members p d c.args.members.now (subst (IsReached p d) c.requires.sum c.requires.reached)
