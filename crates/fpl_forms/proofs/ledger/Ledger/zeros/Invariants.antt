use Rattle.std.proofs.Common.{◌≡◌, map, take, length, All}
use Rattle.fpl_forms.specs.Ledgers.{IsExpr, Grows, AreWithin, left_of, right_of}
use Rattle.fpl_forms.specs.Forms.{AreTermsOf, term_expr, zeroed}
use Rattle.fpl_forms.proofs.ledger.Ledger.zeros.Given as goal

abbrev pub invariant-loop-i : goal.invariant-loop-i
invariant-loop-i l = record {
  grows : Grows l.fn.self l.self;
  atoms : All (IsExpr l.self.presentation) l.atoms;
  terms : AreTermsOf l.self.prime (length l.atoms) l.sum.terms.items;
  within : AreWithin l.self l.lines.items;
  lefts : map (left_of l.self) l.lines.items ≡ map (term_expr l.atoms) (take l.i l.sum.terms.items);
  rights : map (right_of l.self) l.lines.items ≡ map (zeroed l.atoms) (take l.i l.sum.terms.items);
}
