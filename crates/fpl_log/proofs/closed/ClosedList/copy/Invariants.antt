use Rattle.std.proofs.Common.{◌≡◌, take}
use Rattle.fpl_log.proofs.closed.ClosedList.copy.Given as goal

abbrev pub invariant-loop-item : goal.invariant-loop-item
invariant-loop-item l = record {
  of_self : l.item-items ≡ l.self;
  copied : l.items.items ≡ take l.item-index l.item-items;
}
