use Rattle.std.proofs.Common.{◌≡◌, take}
use Rattle.fpl_table.specs.Standard.{start_of}
use Rattle.fpl_forms.specs.Ledgers.{Grows}
use Rattle.fpl_table_facts.specs.Known.{IsKnown}
use Rattle.fpl_prove.specs.Prefixes.{after}
use Rattle.fpl_prove.proofs.proving.learn_through.Given as goal

abbrev pub invariant-loop-k : goal.invariant-loop-k
invariant-loop-k l = record {
  grows : Grows l.fn.ledger l.ledger;
  known : IsKnown l.ledger l.known;
  table : l.known.table ≡ after (start_of l.fn.ledger.presentation) (take l.k l.sections);
}
