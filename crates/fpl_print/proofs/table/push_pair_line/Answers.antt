use Rattle.fpl_print.proofs.Entries.{entry_elements}
use Rattle.fpl_print.proofs.table.push_pair_line.Goals as goal

pub push_combination-requires : goal.push_combination-requires
push_combination-requires g c = rw (c.field.ensures, c.entry.ensures.value) (entry_elements c.args.table.now c.requires.elements _ _)
