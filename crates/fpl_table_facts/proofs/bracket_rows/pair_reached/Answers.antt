use Rattle.fpl_table_facts.proofs.Due.{due_left, due_right}
use Rattle.fpl_table_facts.proofs.bracket_rows.pair_reached.Goals as goal

pub returns-clause-left : goal.returns-clause-left
returns-clause-left c =
    due_left c.args.p.now c.args.known.now.table.weight c.requires.sound c.args.a.now c.args.b.now c.requires.due c.requires.some_a c.requires.some_b

pub returns-clause-right : goal.returns-clause-right
returns-clause-right c =
    due_right c.args.p.now c.args.known.now.table.weight c.requires.sound c.args.a.now c.args.b.now c.requires.due c.requires.some_a c.requires.some_b
