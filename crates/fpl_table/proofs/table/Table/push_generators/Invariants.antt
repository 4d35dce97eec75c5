use Rattle.std.proofs.Common.{◌≡◌, ◌++◌, map, All}
use Rattle.math_linear.specs.Lists.{joined}
use Rattle.fpl_table.specs.Cells.{generator_cell}
use Rattle.fpl_table.specs.Plain.{symbol_in}
use Rattle.fpl_table.specs.Shape.{IsNumbered}
use Rattle.fpl_table.proofs.table.Table.push_generators.Given as goal

abbrev pub invariant-loop-g : goal.invariant-loop-g
invariant-loop-g g l = record {
  value : map symbol_in l.symbols.items ≡ map symbol_in l.initial.symbols.items ++ joined l.g (generator_cell l.self l.w);
  numbered : All IsNumbered l.initial.symbols.items → All IsNumbered l.symbols.items;
}
