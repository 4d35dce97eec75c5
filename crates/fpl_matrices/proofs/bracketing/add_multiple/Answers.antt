use Rattle.std.proofs.Common.{sym, subst, arith}
use Rattle.fpl_lanes.specs.Lanes.{AllBelow}
use Rattle.fpl_scalar.proofs.ResidueRows.{added_below}
use Rattle.fpl_matrices.proofs.Sound.{listed_least, listed_most}
use Rattle.fpl_matrices.proofs.bracketing.add_multiple.Goals as goal

pub axpy-requires-clause-least : goal.axpy-requires-clause-least
axpy-requires-clause-least c = listed_least c.args.prime c.requires.listed

pub axpy-requires-clause-most : goal.axpy-requires-clause-most
axpy-requires-clause-most c = listed_most c.args.prime c.requires.listed

pub returns-clause-below : goal.returns-clause-below
returns-clause-below c =
    subst (AllBelow c.args.prime) (sym c.axpy.ensures)
    (added_below c.args.prime c.args.out.now c.args.c c.args.row.now (let h = listed_least c.args.prime c.requires.listed in omega arith) c.requires.below)
