use Rattle.std.proofs.Common.{map}
use Rattle.fpl_check.specs.Filled.{AreCells}
use Rattle.fpl_check.proofs.stored.are_cells.Given as goal

abbrev pub invariant-loop-i : goal.invariant-loop-i
invariant-loop-i g l = AreCells l.stored l.places (map g.F.Field.number l.numbers) l.i
