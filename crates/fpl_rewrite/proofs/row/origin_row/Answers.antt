use Rattle.std.proofs.Common.{subst}
use Rattle.fpl_rewrite.proofs.Listed.{IsOrigin, listed_is}
use Rattle.fpl_rewrite.proofs.row.origin_row.Goals as goal

pub relation_row-requires-clause-number : goal.relation_row-requires-clause-number
relation_row-requires-clause-number g c = subst (IsOrigin c.args.table.now c.args.p.now) c.in-Relation.is
    (listed_is c.args.table.now c.args.p.now c.args.origin c.requires.listed)

pub jacobi_row-requires-clause-order : goal.jacobi_row-requires-clause-order
jacobi_row-requires-clause-order g c = (subst (IsOrigin c.args.table.now c.args.p.now) c.in-Jacobi.is
    (listed_is c.args.table.now c.args.p.now c.args.origin c.requires.listed)).0

pub jacobi_row-requires-clause-weight : goal.jacobi_row-requires-clause-weight
jacobi_row-requires-clause-weight g c = (subst (IsOrigin c.args.table.now c.args.p.now) c.in-Jacobi.is
    (listed_is c.args.table.now c.args.p.now c.args.origin c.requires.listed)).1

pub cube_row-requires-clause-number : goal.cube_row-requires-clause-number
cube_row-requires-clause-number g c = (subst (IsOrigin c.args.table.now c.args.p.now) c.in-Cube.is
    (listed_is c.args.table.now c.args.p.now c.args.origin c.requires.listed)).0

pub cube_row-requires-clause-odd : goal.cube_row-requires-clause-odd
cube_row-requires-clause-odd g c = (subst (IsOrigin c.args.table.now c.args.p.now) c.in-Cube.is
    (listed_is c.args.table.now c.args.p.now c.args.origin c.requires.listed)).1

pub cube_row-requires-clause-weight : goal.cube_row-requires-clause-weight
cube_row-requires-clause-weight g c = (subst (IsOrigin c.args.table.now c.args.p.now) c.in-Cube.is
    (listed_is c.args.table.now c.args.p.now c.args.origin c.requires.listed)).2
