use Rattle.std.proofs.Common.{◌≡◌, ◌++◌, ◌≤◌, map, length, All, ◌-◌}
use Rattle.math_linear.specs.Lists.{joined}
use Rattle.fpl_table.specs.Cells.{pair_cell}
use Rattle.fpl_table.specs.Plain.{symbol_in}
use Rattle.fpl_table.specs.Shape.{IsNumbered}
use Rattle.fpl_table.proofs.table.Table.push_pairs.Given as goal

abbrev pub invariant-loop-j : goal.invariant-loop-j
invariant-loop-j g l = record {
  within : l.j ≤ length l.self.basis;
  value : map symbol_in l.symbols.items ≡ map symbol_in l.initial.symbols.items ++ joined l.j (pair_cell l.self l.w (l.i - 1));
  numbered : All IsNumbered l.initial.symbols.items → All IsNumbered l.symbols.items;
}
