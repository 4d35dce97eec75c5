-- Facts for outermost brackets that are gathered one by one, and row by row.
use Rattle.std.proofs.Common.{◌≡◌, ◌++◌, ℕ, List, [], ◌∷◌, map, ap₂, sym, subst, ◌∙◌}
use Rattle.std.proofs.lemmas.List.{map-append}
use Rattle.std.proofs.lemmas.List.Elements.{All-append}
use Rattle.fpl_numbers.specs.Kinds.{Number}
use Rattle.fpl_model.specs.declared.expr.Expr.TheVariants.{Br}
use Rattle.fpl_forms.specs.declared.term.Term.{Term}
use Rattle.fpl_forms.specs.declared.term.Fact.{Fact}
use Rattle.fpl_forms.specs.Ledgers.{PlainLedger, Grows, left_of}
use Rattle.fpl_forms.specs.Forms.{IsWork}
use Rattle.fpl_forms.specs.Combining.{terms_of, pair_of, atom_of}
use Rattle.fpl_forms.specs.Laws.{number_in}
use Rattle.fpl_forms.proofs.Ledgers.{all_one}
use Rattle.fpl_forms.proofs.Gathering.{grows_works, grows_lefts_of}
use Rattle.fpl_forms.proofs.Rows.{grows_rows}
use Rattle.fpl_table_facts.specs.declared.known.Known.{Known}
use Rattle.fpl_table_facts.specs.declared.known.Next.{Next}
use Rattle.fpl_table_facts.specs.Rows.{IsRow, AreLeavesOf, AreLeaves, pair_leaf}
use Rattle.fpl_table_facts.proofs.RowLists.{rows_more}

module _ {L M : PlainLedger} (g : Grows L M) (k : Known) (n : Next) where
  pub grows_leaves_of : (s : Term) (ts : List Term) (fs : List Fact) → AreLeavesOf L k n s ts fs → AreLeavesOf M k n s ts fs
  grows_leaves_of s ts fs h = record {
    works = grows_works g n.trees.items fs h.works;
    lefts_are = grows_lefts_of g n.trees.items fs h.works ∙ h.lefts_are;
    numbers = subst (λ p. (i : ℕ) → map (λ f. number_in p.field (terms_of f) i) fs ≡ map (λ t. pair_leaf p k.table s.atom t.atom i) ts)
        (sym g.presentation) h.numbers;
  }

  pub grows_leaves : (ss ts : List Term) (rows : List (List Fact)) → AreLeaves L k n ss ts rows → AreLeaves M k n ss ts rows
  grows_leaves ss ts rows h = record {
    members = grows_rows g n.trees.items k.basis.items ss ts rows h.members;
    numbers = subst (λ p. (i : ℕ) → map (map (λ f. number_in p.field (terms_of f) i)) rows
        ≡ map (λ s. map (λ t. pair_leaf p k.table s.atom t.atom i) ts) ss) (sym g.presentation) h.numbers;
  }

module _ (L : PlainLedger) (k : Known) (n : Next) where
  abbrev numbers_of : ℕ → List Fact → List (Number L.presentation.field)
  numbers_of i fs = map (λ f. number_in L.presentation.field (terms_of f) i) fs

  pub leaves_of_more : (s : Term) (ts : List Term) (fs : List Fact) (t : Term) (f : Fact) → AreLeavesOf L k n s ts fs →
      IsRow L n (Br (atom_of k.basis.items s) (atom_of k.basis.items t)) (pair_leaf L.presentation k.table s.atom t.atom) f →
      AreLeavesOf L k n s (ts ++ t ∷ []) (fs ++ f ∷ [])
  leaves_of_more s ts fs t f h r = record {
    works = All-append (IsWork L n.trees.items) fs (f ∷ []) h.works (all_one (IsWork L n.trees.items) f r.fact.work);
    lefts_are = map-append (λ (f : Fact). left_of L f.line) fs (f ∷ []) ∙ ap₂ (λ xs x. xs ++ x ∷ []) h.lefts_are r.fact.left ∙
        sym (map-append (pair_of k.basis.items (atom_of k.basis.items s)) ts (t ∷ []));
    numbers = λ i. map-append (λ f. number_in L.presentation.field (terms_of f) i) fs (f ∷ []) ∙
        ap₂ (λ xs x. xs ++ x ∷ []) (h.numbers i) (r.numbers i) ∙
        sym (map-append (λ (t : Term). pair_leaf L.presentation k.table s.atom t.atom i) ts (t ∷ []));
  }

  pub leaves_more : (ss ts : List Term) (rows : List (List Fact)) (s : Term) (r : List Fact) → AreLeaves L k n ss ts rows → AreLeavesOf L k n s ts r →
      AreLeaves L k n (ss ++ s ∷ []) ts (rows ++ r ∷ [])
  leaves_more ss ts rows s r h a = record {
    members = rows_more L k.basis.items n.trees.items ss ts rows s r h.members a.works a.lefts_are;
    numbers = λ i. map-append (numbers_of i) rows (r ∷ []) ∙ ap₂ (λ xs x. xs ++ x ∷ []) (h.numbers i) (a.numbers i) ∙
        sym (map-append (λ (s : Term). map (λ (t : Term). pair_leaf L.presentation k.table s.atom t.atom i) ts) ss (s ∷ []));
  }
