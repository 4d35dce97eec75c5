use Rattle.std.proofs.Common.{◌≡◌, map, take, All}
use Rattle.fpl_forms.specs.Forms.{IsWork}
use Rattle.fpl_forms.specs.Combining.{lefts, atom_of}
use Rattle.fpl_prove.proofs.level.values_of.Given as goal

abbrev pub invariant-loop-t : goal.invariant-loop-t
invariant-loop-t l = record {
  works : All (IsWork l.ledger l.basis) l.facts.items;
  lefts : lefts l.ledger l.facts.items ≡ map (atom_of l.trees) (take l.t-index l.terms);
}
