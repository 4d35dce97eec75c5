use Rattle.std.proofs.Common.{◌≡◌, map, take, length, All}
use Rattle.std.specs.Simd.Lanes.{zip2}
use Rattle.fpl_forms.specs.Ledgers.{IsExpr, Grows}
use Rattle.fpl_forms.specs.Forms.{IsWork, AreTermsOf, term_expr}
use Rattle.fpl_forms.specs.Combining.{AreFacts, lefts, atom_of, times_term}
use Rattle.fpl_forms.proofs.ledger.Ledger.multiples.Given as goal

abbrev pub invariant-loop-i : goal.invariant-loop-i
invariant-loop-i l = record {
  grows : Grows l.fn.self l.self;
  values : All (IsExpr l.self.presentation) l.values;
  terms : AreTermsOf l.self.prime (length l.atoms) l.sum.terms.items;
  facts : All (IsWork l.self l.values) l.facts;
  lefts : lefts l.self l.facts ≡ map (atom_of l.atoms) l.sum.terms.items;
  made : AreFacts l.self l.values (map (term_expr l.atoms) (take l.i l.sum.terms.items)) (zip2 (times_term l.fn.self.prime) (take l.i l.sum.terms.items) (take l.i l.facts))
      l.all.items;
}
