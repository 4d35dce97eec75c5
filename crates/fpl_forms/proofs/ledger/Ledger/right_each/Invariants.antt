use Rattle.std.proofs.Common.{◌≡◌, map, take, length, All}
use Rattle.std.specs.Simd.Lanes.{zip2}
use Rattle.fpl_model.specs.declared.expr.Expr.TheVariants.{Br}
use Rattle.fpl_forms.specs.Ledgers.{IsExpr, Grows}
use Rattle.fpl_forms.specs.Forms.{IsWork, AreTermsOf, term_expr}
use Rattle.fpl_forms.specs.Combining.{AreFacts, lefts, pair_of, times_term}
use Rattle.fpl_forms.proofs.ledger.Ledger.right_each.Given as goal

abbrev pub invariant-loop-i : goal.invariant-loop-i
invariant-loop-i l = record {
  grows : Grows l.fn.self l.self;
  atoms : All (IsExpr l.self.presentation) l.atoms;
  values : All (IsExpr l.self.presentation) l.values;
  left : IsExpr l.self.presentation l.x;
  terms : AreTermsOf l.self.prime (length l.atoms) l.second.terms.items;
  row : All (IsWork l.self l.values) l.row;
  lefts : lefts l.self l.row ≡ map (pair_of l.atoms l.x) l.second.terms.items;
  made : AreFacts l.self l.values (map (λ t. Br l.x (term_expr l.atoms t)) (take l.i l.second.terms.items))
      (zip2 (times_term l.fn.self.prime) (take l.i l.second.terms.items) (take l.i l.row)) l.all.items;
}
