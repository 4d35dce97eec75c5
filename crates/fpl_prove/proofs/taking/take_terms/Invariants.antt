use Rattle.std.proofs.Common.{◌≡◌, drop, map, All}
use Rattle.fpl_forms.specs.Ledgers.{IsExpr, Grows}
use Rattle.fpl_forms.specs.Combining.{terms_of}
use Rattle.fpl_facts.specs.Facts.{IsZero}
use Rattle.fpl_prove.specs.Taking.{all_taken}
use Rattle.fpl_prove.proofs.taking.take_terms.Given as goal

abbrev pub invariant-loop-i : goal.invariant-loop-i
invariant-loop-i l = record {
  grows : Grows l.fn.ledger l.ledger;
  atoms : All (IsExpr l.ledger.presentation) l.atoms;
  zeros : All (IsZero l.ledger l.atoms) l.zeros;
  left : IsZero l.ledger l.atoms l.left;
  done : all_taken l.fn.ledger.prime (map terms_of l.zeros) l.left.terms.items (drop l.i l.terms)
      ≡ all_taken l.fn.ledger.prime (map terms_of l.zeros) l.fn.start.terms.items l.terms;
}
