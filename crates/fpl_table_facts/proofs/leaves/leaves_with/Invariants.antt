use Rattle.std.proofs.Common.{take}
use Rattle.fpl_forms.specs.Ledgers.{Grows}
use Rattle.fpl_table_facts.specs.Known.{IsKnown, IsNext}
use Rattle.fpl_table_facts.specs.Rows.{AreLeavesOf}
use Rattle.fpl_table_facts.proofs.leaves.leaves_with.Given as goal

abbrev pub invariant-loop-i : goal.invariant-loop-i
invariant-loop-i l = record {
  grows : Grows l.fn.ledger l.ledger;
  known : IsKnown l.ledger l.known;
  next : IsNext l.ledger l.known l.next;
  leaves : AreLeavesOf l.ledger l.known l.next l.s (take l.i l.second) l.all.items;
}
