use Rattle.fpl_print.proofs.Entries.{entry_elements}
use Rattle.fpl_print.proofs.gap.push_pair.Goals as goal

pub push_row-requires : goal.push_row-requires
push_row-requires g c = rw (c.field.ensures, c.entry.ensures.value) (entry_elements c.args.table.now c.requires.elements _ _)
