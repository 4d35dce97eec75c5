use Rattle.std.proofs.Common.{◌≡◌, ◌++◌, map, All}
use Rattle.fpl_table.specs.Cells.{generator_cells}
use Rattle.fpl_table.specs.Plain.{symbol_in}
use Rattle.fpl_table.specs.Shape.{IsNumbered}
use Rattle.fpl_table.specs.Cells.{pairs_to}
use Rattle.fpl_table.proofs.table.Table.symbol_list.Given as goal

abbrev pub invariant-loop-i : goal.invariant-loop-i
invariant-loop-i g l = record {
  value : map symbol_in l.symbols.items ≡ generator_cells l.self l.w ++ pairs_to l.self l.w l.i;
  numbered : All IsNumbered l.symbols.items;
}
