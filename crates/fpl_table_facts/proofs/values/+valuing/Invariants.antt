use Rattle.std.proofs.Common.{◌≡◌, take, All}
use Rattle.fpl_forms.specs.Ledgers.{Grows}
use Rattle.fpl_forms.specs.Forms.{IsWork}
use Rattle.fpl_forms.specs.Combining.{lefts}
use Rattle.fpl_table_facts.specs.Known.{IsKnown}
use Rattle.fpl_table_facts.proofs.values.+valuing.Given as goal

abbrev pub invariant-values-loop-e : goal.invariant-values-loop-e
invariant-values-loop-e l = record {
  same : l.e-items ≡ l.members;
  grows : Grows l.fn.ledger l.ledger;
  presentation : l.p ≡ l.ledger.presentation;
  known : IsKnown l.ledger l.known;
  works : All (IsWork l.ledger l.known.basis.items) l.all.items;
  lefts : lefts l.ledger l.all.items ≡ take l.e-index l.members;
}
