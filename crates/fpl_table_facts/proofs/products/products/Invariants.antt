use Rattle.std.proofs.Common.{map, take}
use Rattle.fpl_forms.specs.Ledgers.{Grows}
use Rattle.fpl_forms.specs.Combining.{AreRows}
use Rattle.fpl_table_facts.specs.Known.{IsKnown}
use Rattle.fpl_table_facts.proofs.products.products.Given as goal

abbrev pub invariant-loop-i : goal.invariant-loop-i
invariant-loop-i l = record {
  grows : Grows l.fn.ledger l.ledger;
  known : IsKnown l.ledger l.known;
  rows : AreRows l.ledger l.known.basis.items l.known.basis.items (take l.i l.first) l.second (map (λ r. r.items) l.all.items);
}
