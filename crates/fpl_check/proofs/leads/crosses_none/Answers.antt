use Rattle.fpl_check.proofs.Cells.{clear_at}
use Rattle.fpl_check.proofs.leads.crosses_none.Goals as goal

pub returns-in-Some : goal.returns-in-Some
returns-in-Some g c e = clear_at _ c.args.lead c.args.marks.now c.in-Some.places.now _ c.args.row.now c.in-Some.ensures.value (c.are_clear.ensures e)
