use Rattle.fpl_table_facts.proofs.Reached as lemmas
use Rattle.fpl_table_facts.proofs.bracket_rows.void_reached.Goals as goal

pub returns : goal.returns
returns c = lemmas.void_reached c.args.p.now c.args.known.now.table.weight c.args.a.now c.requires.over c.requires.few c.requires.void
