use Rattle.std.proofs.Common.{◌≡◌, map, take, length, All}
use Rattle.std.specs.Simd.Lanes.{zip2}
use Rattle.fpl_model.specs.declared.expr.Expr.TheVariants.{Br}
use Rattle.fpl_forms.specs.Ledgers.{IsExpr, Grows}
use Rattle.fpl_forms.specs.Forms.{AreTermsOf, term_expr, sum_expr}
use Rattle.fpl_forms.specs.Combining.{AreFacts, AreRows, times_row}
use Rattle.fpl_forms.proofs.ledger.Ledger.rows.Given as goal

abbrev pub invariant-loop-i : goal.invariant-loop-i
invariant-loop-i l = record {
  grows : Grows l.fn.self l.self;
  atoms : All (IsExpr l.self.presentation) l.atoms;
  values : All (IsExpr l.self.presentation) l.values;
  firsts : AreTermsOf l.self.prime (length l.atoms) l.first.terms.items;
  terms : AreTermsOf l.self.prime (length l.atoms) l.second.terms.items;
  rows : AreRows l.self l.atoms l.values l.first.terms.items l.second.terms.items (map (λ r. r.items) l.rows);
  made : AreFacts l.self l.values (map (λ s. Br (term_expr l.atoms s) (sum_expr l.atoms l.second.terms.items)) (take l.i l.first.terms.items))
      (zip2 (times_row l.fn.self.prime l.second.terms.items) (take l.i l.first.terms.items) (take l.i (map (λ r. r.items) l.rows))) l.all.items;
}
