use Rattle.std.proofs.Common.{◌≡◌, map, take}
use Rattle.fpl_forms.specs.Ledgers.{left_of, right_of}
use Rattle.fpl_forms.proofs.ledger.Ledger.parts.Given as goal

abbrev pub invariant-loop-n : goal.invariant-loop-n
invariant-loop-n l = record {
  items : l.n-items ≡ l.fn.lines.items;
  left : l.left ≡ map (left_of l.fn.self) (take l.n-index l.fn.lines.items);
  right : l.right ≡ map (right_of l.fn.self) (take l.n-index l.fn.lines.items);
}
