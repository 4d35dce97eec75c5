-- Rows of facts that are gathered row by row.
use Rattle.std.proofs.Common.{◌≡◌, ◌++◌, List, [], ◌∷◌, map, ap₂, sym, ◌∙◌, All}
use Rattle.std.proofs.lemmas.List.{map-append}
use Rattle.std.proofs.lemmas.List.Elements.{All-append}
use Rattle.fpl_model.specs.declared.expr.Expr.{Expr}
use Rattle.fpl_forms.specs.declared.term.Term.{Term}
use Rattle.fpl_forms.specs.declared.term.Fact.{Fact}
use Rattle.fpl_forms.specs.Ledgers.{PlainLedger}
use Rattle.fpl_forms.specs.Forms.{IsWork}
use Rattle.fpl_forms.specs.Combining.{lefts, pair_of, atom_of, AreRows}
use Rattle.fpl_forms.proofs.Ledgers.{all_one}

pub rows_more : (L : PlainLedger) (atoms values : List Expr) (ss ts : List Term) (rows : List (List Fact)) (s : Term) (r : List Fact) →
    AreRows L atoms values ss ts rows → All (IsWork L values) r → lefts L r ≡ map (pair_of atoms (atom_of atoms s)) ts →
    AreRows L atoms values (ss ++ s ∷ []) ts (rows ++ r ∷ [])
rows_more L atoms values ss ts rows s r h w e = record {
  works = All-append (All (IsWork L values)) rows (r ∷ []) h.works (all_one (All (IsWork L values)) r w);
  lefts_are = map-append (lefts L) rows (r ∷ []) ∙ ap₂ (λ xs x. xs ++ x ∷ []) h.lefts_are e ∙
      sym (map-append (λ (s : Term). map (pair_of atoms (atom_of atoms s)) ts) ss (s ∷ []));
}
