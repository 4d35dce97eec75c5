use Rattle.std.proofs.Common.{◌≡◌, ◌<◌, map, take, length, All}
use Rattle.fpl_numbers.specs.Numbers.{residue}
use Rattle.fpl_model.specs.declared.expr.Expr.TheVariants.{Times}
use Rattle.fpl_forms.specs.Ledgers.{IsExpr, Grows, AreWithin, left_of, right_of}
use Rattle.fpl_forms.specs.Forms.{AreTermsOf, term_expr}
use Rattle.fpl_forms.specs.Combining.{scaled}
use Rattle.fpl_forms.proofs.ledger.Ledger.multiply_each.Given as goal

abbrev pub invariant-loop-i : goal.invariant-loop-i
invariant-loop-i l = record {
  grows : Grows l.fn.self l.self;
  atoms : All (IsExpr l.self.presentation) l.atoms;
  number : l.number < l.self.prime;
  terms : AreTermsOf l.self.prime (length l.atoms) l.sum.terms.items;
  within : AreWithin l.self l.lines.items;
  lefts : map (left_of l.self) l.lines.items ≡ map (λ t. Times (residue l.number) (term_expr l.atoms t)) (take l.i l.sum.terms.items);
  rights : map (right_of l.self) l.lines.items ≡ map (λ t. term_expr l.atoms (scaled l.fn.self.prime l.number t)) (take l.i l.sum.terms.items);
}
