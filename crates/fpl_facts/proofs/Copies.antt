-- Facts of one line and the same terms.
use Rattle.std.proofs.Common.{◌≡◌, ◌++◌, List, [], ◌∷◌, length, ap, ap₂, sym, subst, ◌∙◌, All}
use Rattle.fpl_model.specs.declared.expr.Expr.{Expr}
use Rattle.std.proofs.lemmas.List.{append-nil}
use Rattle.fpl_forms.specs.declared.term.Term.{Term}
use Rattle.fpl_forms.specs.declared.term.Fact.{Fact}
use Rattle.fpl_forms.specs.Combining.{terms_of, joined}
use Rattle.fpl_forms.specs.Ledgers.{PlainLedger, IsWithin, right_of}
use Rattle.fpl_forms.specs.Forms.{IsWork, AreTermsOf, sum_expr}
use Rattle.fpl_facts.proofs.NextAxioms.{all_two}

pub same_work : {L : PlainLedger} {atoms : List Expr} {f g : Fact} → f.line ≡ g.line → f.terms.items ≡ g.terms.items → IsWork L atoms g → IsWork L atoms f
same_work {L} {atoms} line terms w = record {
  within = subst (IsWithin L) (sym line) w.within;
  right = ap (right_of L) line ∙ w.right ∙ ap (sum_expr atoms) (sym terms);
  terms = subst (AreTermsOf L.prime (length atoms)) (sym terms) w.terms;
}

pub two_works : {L : PlainLedger} {atoms : List Expr} {f g : Fact} → (fs : List Fact) → fs ≡ f ∷ g ∷ [] → IsWork L atoms f → IsWork L atoms g →
    All (IsWork L atoms) fs
two_works {L} {atoms} {f} {g} fs is w v = subst (All (IsWork L atoms)) (sym is) (all_two (IsWork L atoms) f g w v)

pub two_joined : {f g : Fact} {ss ts : List Term} → (fs : List Fact) → fs ≡ f ∷ g ∷ [] → terms_of f ≡ ss → terms_of g ≡ ts → joined fs ≡ ss ++ ts
two_joined {f} {g} fs is first second =
    ap joined is ∙ ap (λ us. terms_of f ++ us) (append-nil (terms_of g)) ∙ ap₂ (λ us vs. us ++ vs) first second
