use Rattle.std.proofs.Common.{◌≡◌, All, ◌+◌, ◌≤◌, ◌++◌, length, drop}
use Rattle.math_linear.specs.Lists.{joined}
use Rattle.fpl_table.specs.Cells.{generator_cell}
use Rattle.fpl_table.specs.Shape.{IsRowUpTo}
use Rattle.fpl_table.specs.Push.{new_images}
use Rattle.fpl_table.proofs.table.Table.new_images.Given as goal

abbrev pub invariant-loop-g : goal.invariant-loop-g
invariant-loop-g g l = record {
  few : l.place ≤ l.g;
  place : l.place ≡ length (joined l.g (generator_cell l.self (l.self.weight + 1)));
  left : l.images.items ++ new_images l.self l.closed.rows.now l.g (drop l.g l.self.generators) ≡ new_images l.self l.closed.rows.now 0 l.self.generators;
  whole : All (IsRowUpTo l.self.kind (length l.self.basis + length l.closed.free.items)) l.images.items;
}
