use Rattle.std.proofs.Common.{◌≡◌, take}
use Rattle.fpl_forms.specs.Ledgers.{Grows}
use Rattle.fpl_table_facts.specs.Known.{IsKnown, IsNext}
use Rattle.fpl_table_facts.specs.Rows.{AreRowsOf}
use Rattle.fpl_table_facts.proofs.rows.+rowing.Given as goal

abbrev pub invariant-rows-loop-e : goal.invariant-rows-loop-e
invariant-rows-loop-e l = record {
  same : l.e-items ≡ l.members;
  grows : Grows l.fn.ledger l.ledger;
  presentation : l.p ≡ l.ledger.presentation;
  known : IsKnown l.ledger l.known;
  next : IsNext l.ledger l.known l.next;
  rows : AreRowsOf l.ledger l.known l.next (take l.e-index l.members) l.all.items;
}
