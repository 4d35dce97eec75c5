use Rattle.std.proofs.Common.{◌≡◌, ◌≤◌, take, drop, length, All}
use Rattle.fpl_model.specs.declared.expr.Expr.TheVariants.{Sum}
use Rattle.fpl_forms.specs.Ledgers.{IsExpr, Grows, left_of}
use Rattle.fpl_forms.specs.Forms.{AreTermsOf}
use Rattle.fpl_forms.specs.Combining.{IsHalf, terms_of, joined, lefts}
use Rattle.fpl_forms.proofs.ledger.Ledger.flatten.Given as goal

abbrev pub invariant-loop-at : goal.invariant-loop-at
invariant-loop-at l = record {
  grows : Grows l.fn.self l.self;
  atoms : All (IsExpr l.self.presentation) l.atoms;
  facts : All (λ f. AreTermsOf l.self.prime (length l.atoms) (terms_of f)) l.facts;
  small : l.at ≤ length l.facts;
  part : IsHalf l.self l.atoms (take l.at l.facts) l.part;
  left : left_of l.self l.part.line ≡ Sum (lefts l.fn.self l.facts);
  terms : l.part.terms.items ≡ joined (drop l.at l.facts);
}

abbrev pub decreases-loop-at : goal.decreases-loop-at
decreases-loop-at l = l.at
