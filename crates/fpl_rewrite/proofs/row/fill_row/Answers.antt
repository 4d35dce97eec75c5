use Rattle.std.proofs.Common.{subst}
use Rattle.fpl_rewrite.proofs.Listed.{IsOrigin, listed_is}
use Rattle.fpl_rewrite.proofs.row.fill_row.Goals as goal

pub relation_row-requires-clause-number : goal.relation_row-requires-clause-number
relation_row-requires-clause-number g c = subst (IsOrigin c.args.table.now c.args.p.now) c.in-Relation.is
    (listed_is c.args.table.now c.args.p.now c.args.origin c.requires.listed)

pub fill_jacobi-requires-clause-order : goal.fill_jacobi-requires-clause-order
fill_jacobi-requires-clause-order g c = (subst (IsOrigin c.args.table.now c.args.p.now) c.in-Jacobi.is
    (listed_is c.args.table.now c.args.p.now c.args.origin c.requires.listed)).0

pub fill_jacobi-requires-clause-weight : goal.fill_jacobi-requires-clause-weight
fill_jacobi-requires-clause-weight g c = (subst (IsOrigin c.args.table.now c.args.p.now) c.in-Jacobi.is
    (listed_is c.args.table.now c.args.p.now c.args.origin c.requires.listed)).1

pub fill_cube-requires-clause-number : goal.fill_cube-requires-clause-number
fill_cube-requires-clause-number g c = (subst (IsOrigin c.args.table.now c.args.p.now) c.in-Cube.is
    (listed_is c.args.table.now c.args.p.now c.args.origin c.requires.listed)).0

pub fill_cube-requires-clause-odd : goal.fill_cube-requires-clause-odd
fill_cube-requires-clause-odd g c = (subst (IsOrigin c.args.table.now c.args.p.now) c.in-Cube.is
    (listed_is c.args.table.now c.args.p.now c.args.origin c.requires.listed)).1

pub fill_cube-requires-clause-weight : goal.fill_cube-requires-clause-weight
fill_cube-requires-clause-weight g c = (subst (IsOrigin c.args.table.now c.args.p.now) c.in-Cube.is
    (listed_is c.args.table.now c.args.p.now c.args.origin c.requires.listed)).2
