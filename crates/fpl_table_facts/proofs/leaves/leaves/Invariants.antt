use Rattle.std.proofs.Common.{map, take}
use Rattle.fpl_forms.specs.Ledgers.{Grows}
use Rattle.fpl_table_facts.specs.Known.{IsKnown, IsNext}
use Rattle.fpl_table_facts.specs.Rows.{AreLeaves}
use Rattle.fpl_table_facts.proofs.leaves.leaves.Given as goal

abbrev pub invariant-loop-i : goal.invariant-loop-i
invariant-loop-i l = record {
  grows : Grows l.fn.ledger l.ledger;
  known : IsKnown l.ledger l.known;
  next : IsNext l.ledger l.known l.next;
  leaves : AreLeaves l.ledger l.known l.next (take l.i l.first) l.second (map (λ r. r.items) l.all.items);
}
