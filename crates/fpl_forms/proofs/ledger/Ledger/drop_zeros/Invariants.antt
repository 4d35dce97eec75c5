use Rattle.std.proofs.Common.{◌≡◌, take, drop, length, All}
use Rattle.fpl_forms.specs.Ledgers.{IsExpr, Grows, left_of}
use Rattle.fpl_forms.specs.Forms.{AreTermsOf, nonzero, IsPart}
use Rattle.fpl_forms.proofs.ledger.Ledger.drop_zeros.Given as goal

abbrev pub invariant-loop-i : goal.invariant-loop-i
invariant-loop-i l = record {
  grows : Grows l.fn.self l.self;
  atoms : All (IsExpr l.self.presentation) l.atoms;
  whole : AreTermsOf l.self.prime (length l.atoms) l.sum.terms.items;
  part : IsPart l.self l.atoms (drop l.i l.sum.terms.items) l.part;
  left : left_of l.self l.part.line ≡ left_of l.fn.self l.fn.sum.line;
  terms : l.part.terms.items ≡ nonzero (take l.i l.sum.terms.items);
}
