use Rattle.std.proofs.Common.{length}
use Rattle.fpl_table.specs.Plain.{symbols_in}
use Rattle.fpl_table.proofs.Leads.{free_below}
use Rattle.fpl_table.proofs.table.Table.next_by.Goals as goal

pub new_elements-requires-clause-places : goal.new_elements-requires-clause-places
new_elements-requires-clause-places g c = rw (c.as_slice.ensures.value, c.requires.solved.places.free_is)
    (free_below c.args.closed.now.rows.now (length (symbols_in c.args.self.now)))
