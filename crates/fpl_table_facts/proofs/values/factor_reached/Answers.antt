use Rattle.std.proofs.Common.{subst}
use Rattle.fpl_table_facts.specs.Known.{IsReached}
use Rattle.fpl_table_facts.proofs.Reached.{reached_factor}
use Rattle.fpl_table_facts.proofs.values.factor_reached.Goals as goal

pub returns-clause-number : goal.returns-clause-number
returns-clause-number c =
    let p = c.args.p.now in
    let d = c.args.known.now.table.weight in
    (reached_factor p d c.args.c c.args.factor.now (subst (IsReached p d) c.requires.multiple c.requires.reached)).0

pub returns-clause-reached : goal.returns-clause-reached
returns-clause-reached c =
    let p = c.args.p.now in
    let d = c.args.known.now.table.weight in
    (reached_factor p d c.args.c c.args.factor.now (subst (IsReached p d) c.requires.multiple c.requires.reached)).1
