use Rattle.std.proofs.Common.{◌+◌, length, arith}
use Rattle.plain_elimination.proofs.Found.{found_length, found_elements}
use Rattle.fpl_echelon.proofs.working.sweep_work_place.Goals as goal

pub take_off-requires-clause-at_most : goal.take_off-requires-clause-at_most
take_off-requires-clause-at_most g c =
    let e = found_length (g.F.Field.kind_of c.args.field.now) (length c.args.row.now.row) (c.args.s + 1) c.args.pivots.now _ c.requires.pivots
    c.in-Some.ensures in
    rw (c.row.ensures) (omega (arith, e))

pub take_off-requires-clause-other : goal.take_off-requires-clause-other
take_off-requires-clause-other g c =
    rw (c.row.ensures) (found_elements (g.F.Field.kind_of c.args.field.now) (length c.args.row.now.row)
    (c.args.s + 1) c.args.pivots.now _ c.requires.pivots c.in-Some.ensures)
