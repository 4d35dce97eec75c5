use Rattle.fpl_echelon.proofs.Passing.{none_at}
use Rattle.fpl_echelon.proofs.close.meets_none.Goals as goal

pub returns-in-Some : goal.returns-in-Some
returns-in-Some g c e = none_at _ c.args.s c.in-Some.places.now _ c.args.row.now c.args.closed.now c.in-Some.ensures.value (c.meets_none_at.ensures e)
