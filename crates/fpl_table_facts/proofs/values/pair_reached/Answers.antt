use Rattle.std.proofs.Common.{subst}
use Rattle.fpl_table_facts.specs.Known.{IsReached}
use Rattle.fpl_table_facts.proofs.Reached.{left_reached, right_reached}
use Rattle.fpl_table_facts.proofs.values.pair_reached.Goals as goal

pub returns-clause-left : goal.returns-clause-left
returns-clause-left c =
    let p = c.args.p.now in
    let d = c.args.known.now.table.weight in
    left_reached p d c.args.a.now c.args.b.now (subst (IsReached p d) c.requires.bracket c.requires.reached) c.requires.some_a c.requires.some_b

pub returns-clause-right : goal.returns-clause-right
returns-clause-right c =
    let p = c.args.p.now in
    let d = c.args.known.now.table.weight in
    right_reached p d c.args.a.now c.args.b.now (subst (IsReached p d) c.requires.bracket c.requires.reached) c.requires.some_a c.requires.some_b

pub returns-clause-weight : goal.returns-clause-weight
returns-clause-weight c =
    let p = c.args.p.now in
    let d = c.args.known.now.table.weight in
    (subst (IsReached p d) c.requires.bracket c.requires.reached).weight
