use Rattle.std.proofs.Common.{◌≡◌, All, ◌≤◌, ◌*◌, ◌+◌, ◌++◌, length, map, drop}
use Rattle.fpl_table.specs.Cells.{generator_cells, pairs_to}
use Rattle.fpl_table.specs.Shape.{IsRowUpTo}
use Rattle.fpl_table.specs.Push.{new_entries}
use Rattle.fpl_table.proofs.table.Table.new_entries.Given as goal

abbrev pub invariant-loop-i : goal.invariant-loop-i
invariant-loop-i g l = record {
  few : l.place ≤ 64 + l.i * 2000000000;
  place : l.place ≡ length (generator_cells l.self (l.self.weight + 1)) + length (pairs_to l.self (l.self.weight + 1) l.i);
  left : map (λ v. v.items) l.entries.items ++ new_entries l.self l.closed.rows.now l.i (drop l.i l.self.basis) ≡
      new_entries l.self l.closed.rows.now 0 l.self.basis;
  whole : All (λ partners. All (IsRowUpTo l.self.kind (length l.self.basis + length l.closed.free.items)) partners) (map (λ v. v.items) l.entries.items);
}
