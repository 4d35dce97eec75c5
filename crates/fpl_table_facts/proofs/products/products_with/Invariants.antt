use Rattle.std.proofs.Common.{◌≡◌, map, take, All}
use Rattle.fpl_forms.specs.Ledgers.{Grows}
use Rattle.fpl_forms.specs.Forms.{IsWork}
use Rattle.fpl_forms.specs.Combining.{lefts, pair_of, atom_of}
use Rattle.fpl_table_facts.specs.Known.{IsKnown}
use Rattle.fpl_table_facts.proofs.products.products_with.Given as goal

abbrev pub invariant-loop-i : goal.invariant-loop-i
invariant-loop-i l = record {
  grows : Grows l.fn.ledger l.ledger;
  known : IsKnown l.ledger l.known;
  works : All (IsWork l.ledger l.known.basis.items) l.all.items;
  lefts : lefts l.ledger l.all.items ≡ map (pair_of l.known.basis.items (atom_of l.known.basis.items l.s)) (take l.i l.second);
}
