use Rattle.std.proofs.Common.{◌≡◌, map, take}
use Rattle.plain_cohomology.specs.Plain.{bracket_row}
use Rattle.fpl_cohomology.proofs.boundaries.first_coboundary.Given as goal

abbrev pub invariant-loop-s : goal.invariant-loop-s
invariant-loop-s g l = l.rows ≡ map (bracket_row l.table l.tuples.weight) (take l.s l.tuples.pairs)
