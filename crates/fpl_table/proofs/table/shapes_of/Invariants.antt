use Rattle.std.proofs.Common.{◌≡◌, map, take}
use Rattle.fpl_model.specs.Meaning.{generator_in}
use Rattle.fpl_table.specs.Whole.{shape_in}
use Rattle.fpl_table.proofs.table.shapes_of.Given as goal

abbrev pub invariant-loop-g : goal.invariant-loop-g
invariant-loop-g l = (map shape_in l.shapes.items ≡ map generator_in (take l.g-index l.g-items)) × (l.g-items ≡ l.generators)
