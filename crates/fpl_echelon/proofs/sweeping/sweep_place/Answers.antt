use Rattle.std.proofs.Common.{◌+◌, length, arith}
use Rattle.plain_elimination.proofs.Found.{found_length, found_elements}
use Rattle.fpl_echelon.proofs.sweeping.sweep_place.Goals as goal

pub axpy-requires-clause-at_most : goal.axpy-requires-clause-at_most
axpy-requires-clause-at_most g c =
    let e = found_length (g.F.Field.kind_of c.args.field.now) (length c.args.row.now) (c.args.s + 1) c.args.pivots.now _ c.requires.pivots c.in-Some.ensures in
    rw (c.row.ensures) (omega (arith, e))

pub axpy-requires-clause-other : goal.axpy-requires-clause-other
axpy-requires-clause-other g c =
    rw (c.row.ensures) (found_elements (g.F.Field.kind_of c.args.field.now) (length c.args.row.now)
    (c.args.s + 1) c.args.pivots.now _ c.requires.pivots c.in-Some.ensures)
