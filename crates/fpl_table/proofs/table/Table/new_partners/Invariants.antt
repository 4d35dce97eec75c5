use Rattle.std.proofs.Common.{◌≡◌, All, ◌+◌, ◌-◌, ◌≤◌, ◌++◌, max, length, drop}
use Rattle.fpl_table.specs.Shape.{IsRowUpTo}
use Rattle.fpl_table.specs.Push.{new_partners}
use Rattle.fpl_table.proofs.table.Table.new_partners.Given as goal

abbrev pub invariant-loop-j : goal.invariant-loop-j
invariant-loop-j g l = record {
  within : l.j ≤ length l.self.basis;
  stop : l.j ≤ max l.from l.to;
  count : length l.partners.items ≡ l.j - l.from;
  left : l.partners.items ++ new_partners l.self l.closed.rows.now (l.i - 1) l.j (drop l.j l.self.basis) ≡
      new_partners l.self l.closed.rows.now (l.i - 1) 0 l.self.basis;
  whole : All (IsRowUpTo l.self.kind (length l.self.basis + length l.closed.free.items)) l.partners.items;
}
