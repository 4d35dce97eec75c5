use Rattle.fpl_table_facts.proofs.Due.{due_pair}
use Rattle.fpl_table_facts.proofs.bracket_rows.pair_over.Goals as goal

pub returns-clause-left : goal.returns-clause-left
returns-clause-left c = (due_pair c.args.p.now c.args.known.now.table.weight c.args.a.now c.args.b.now c.requires.due).left

pub returns-clause-right : goal.returns-clause-right
returns-clause-right c = (due_pair c.args.p.now c.args.known.now.table.weight c.args.a.now c.args.b.now c.requires.due).right

pub returns-clause-few_left : goal.returns-clause-few_left
returns-clause-few_left c = (due_pair c.args.p.now c.args.known.now.table.weight c.args.a.now c.args.b.now c.requires.due).few_left

pub returns-clause-few_right : goal.returns-clause-few_right
returns-clause-few_right c = (due_pair c.args.p.now c.args.known.now.table.weight c.args.a.now c.args.b.now c.requires.due).few_right
