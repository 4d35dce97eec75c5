-- Rows of facts, while the ledger grows, and brackets with terms.
use Rattle.std.proofs.Common.{◌≡◌, ◌<◌, ℕ, List, [], ◌∷◌, length, map, refl, ap, ap₂, sym, subst, ◌∙◌, All}
use Rattle.fpl_model.specs.declared.expr.Expr.{Expr}
use Rattle.fpl_model.specs.declared.expr.Expr.TheVariants.{Br}
use Rattle.fpl_forms.specs.declared.term.Term.{Term}
use Rattle.fpl_forms.specs.declared.term.Fact.{Fact}
use Rattle.fpl_forms.specs.Ledgers.{PlainLedger, Grows}
use Rattle.fpl_forms.specs.Forms.{IsWork, term_expr}
use Rattle.fpl_forms.specs.Combining.{lefts, AreRows}
use Rattle.fpl_forms.proofs.Gathering.{first_of, others_of, all_as, grows_works, grows_lefts_of}

module _ {L M : PlainLedger} (g : Grows L M) (values : List Expr) where
  rows_lefts : (rows : List (List Fact)) → All (All (IsWork L values)) rows → map (lefts M) rows ≡ map (lefts L) rows
  rows_lefts [] h = refl
  rows_lefts (r ∷ rows) h =
      ap₂ (λ es ess. es ∷ ess) (grows_lefts_of g values r (first_of (All (IsWork L values)) r rows h))
      (rows_lefts rows (others_of (All (IsWork L values)) r rows h))

  pub grows_rows : (atoms : List Expr) (ss ts : List Term) (rows : List (List Fact)) → AreRows L atoms values ss ts rows → AreRows M atoms values ss ts rows
  grows_rows atoms ss ts rows h = record {
    works = all_as (All (IsWork L values)) (All (IsWork M values)) (λ r w. grows_works g values r w) rows h.works;
    lefts_are = rows_lefts rows h.works ∙ h.lefts_are;
  }

pub right_map : (atoms : List Expr) (x : Expr) (ts : List Term) → map (λ t. Br x (term_expr atoms t)) ts ≡ map (Br x) (map (term_expr atoms) ts)
right_map atoms x [] = refl
right_map atoms x (t ∷ ts) = ap (λ es. Br x (term_expr atoms t) ∷ es) (right_map atoms x ts)

pub left_map : (atoms : List Expr) (e : Expr) (ts : List Term) → map (λ t. Br (term_expr atoms t) e) ts ≡ map (λ x. Br x e) (map (term_expr atoms) ts)
left_map atoms e [] = refl
left_map atoms e (t ∷ ts) = ap (λ es. Br (term_expr atoms t) e ∷ es) (left_map atoms e ts)
