-- A table's fields, with one level and some elements more, are those of the table with one weight more.
use Rattle.std.proofs.Common.{◌≡◌, ◌≤◌, ◌<◌, ◌+◌, ◌++◌, inl, inr, ℕ, suc, List, [], ◌∷◌, length, map, get_or, All, refl, ap, ap₂, sym, subst, ◌∙◌, arith, length-append, add-one, Result, Ok, Err, IsOk}
use Rattle.std.specs.Prelude.{is_ok, if◌then◌else◌, OnOk}
use Rattle.std.proofs.lemmas.List.{get_or_append_left, length-map, map-append}
use Rattle.fpl_numbers.specs.declared.number.Num.{Num}
use Rattle.fpl_numbers.specs.declared.number.Kind.{Kind}
use Rattle.math_algebra.specs.Tree.{Generator, Tree}
use Rattle.math_algebra.specs.Table.{Basis}
use Rattle.fpl_table.specs.Plain.{PlainTable, through, symbols_in}
use Rattle.fpl_table.specs.Shape.{IsRowUpTo, IsNumbered}
use Rattle.fpl_table.specs.Push.{free_of, push_of}
use Rattle.fpl_table.specs.Standard.{count_of}
use Rattle.fpl_table.specs.Leads.{IsNext}
use Rattle.fpl_table.specs.Whole.{IsWhole}
use Rattle.fpl_table.specs.declared.symbol.Symbol as code
use Rattle.fpl_table.proofs.Lists.{nat_split, at_middle, all_append}
use Rattle.fpl_table.proofs.Pushed.{through_old, through_new, push_shape, symbols_next}
use Rattle.fpl_table.proofs.PushedTrees.{push_trees}

pub push_whole : (T : PlainTable) (rows : List (List Num)) (counts : List ℕ) (trees : List (Tree Num)) (codes : List code.Symbol)
    (basis : List Basis) (shoots : List (Tree Num)) (more : List code.Symbol) (count : ℕ) (images : List (List Num)) (entries : List (List (List Num))) →
    T.weight < 1000 → length (symbols_in T) ≤ 2000000 → length counts ≡ T.weight → IsWhole T counts trees codes →
    IsNext T rows (free_of T rows) basis shoots more count images entries →
    IsWhole (push_of T rows) (counts ++ count ∷ []) (trees ++ shoots) (codes ++ more)
push_whole T rows counts trees codes basis shoots more count images entries below few size whole next = record {
  shape = push_shape T rows whole.shape below few (subst (All (IsRowUpTo T.kind (length T.basis + length (free_of T rows)))) next.images_are next.images_whole)
      (subst (All (λ l. All (IsRowUpTo T.kind (length T.basis + length (free_of T rows))) l)) next.entries_are next.entries_whole);
  counts_are = λ v lt.
      elim (nat_split v T.weight) [
        | inl before ↦ get_or_append_left counts (count ∷ []) 0 v (omega arith) ∙ whole.counts_are v before ∙
            sym (through_old T rows whole.shape below few (suc v) (omega arith))
        | inr last ↦
            let here : length counts ≡ v = omega arith in
            ap (λ k. get_or (counts ++ count ∷ []) k 0) (sym here) ∙ at_middle counts count [] 0 ∙ next.count_is ∙
            sym (through_new T rows whole.shape below few) ∙ ap (λ k. through (push_of T rows) (suc k)) (sym size ∙ here)
      ];
  trees_are = ap₂ (λ a b. a ++ b) whole.trees_are next.trees_are ∙ sym (push_trees T rows);
  numbered = all_append IsNumbered codes more whole.numbered next.numbered;
}

push_is : (T : PlainTable) (rows : List (List Num)) (basis : List Basis) (trees : List (Tree Num)) (codes : List code.Symbol) (count : ℕ)
    (images : List (List Num)) (entries : List (List (List Num))) →
    IsNext T rows (free_of T rows) basis trees codes count images entries →
    ◌≡◌ {A = PlainTable} (record {
      kind = T.kind;
      generators = T.generators;
      weight = suc T.weight;
      basis = T.basis ++ basis;
      images =
          T.images ++ images ∷ [];
      entries = T.entries ++ entries ∷ [];
    }) (push_of T rows)
push_is T rows basis trees codes count images entries next = rw (next.basis_is, next.images_are, next.entries_are) refl

-- a table whose fields are lists of levels and of elements, with one level and some elements more
module _ {L E : Type 0} (kind : Kind) (generators : List Generator) (through_of : L → ℕ) (images : L → List (List Num))
    (entries : L → List (List (List Num))) (basis : E → Basis) (tree : E → Tree Num) (code_of : E → code.Symbol) where
  abbrev view : List L → List E → PlainTable
  view levels elements = record {
    kind = kind;
    generators = generators;
    weight = length levels;
    basis = map basis elements;
    images =
        map images levels;
    entries = map entries levels;
  }

  abbrev Whole : List L → List E → Type 0
  Whole levels elements = IsWhole (view levels elements) (map through_of levels) (map tree elements) (map code_of elements)

  view_more : (levels : List L) (level : L) (elements fresh : List E) →
      view (levels ++ level ∷ []) (elements ++ fresh) ≡ record {
        kind = kind;
        generators = generators;
        weight = suc (length levels);
        basis =
            map basis elements ++ map basis fresh;
        images = map images levels ++ images level ∷ [];
        entries = map entries levels ++ entries level ∷ [];
      }
  view_more levels level elements fresh = rw (
    map-append basis elements fresh,
    map-append images levels (level ∷ []),
    map-append entries levels (level ∷ []),
    length-append levels (level ∷ []),
    add-one,
  ) refl

  pub pushed_fields : (levels : List L) (level : L) (elements fresh : List E) (T : PlainTable) (rows : List (List Num)) → view levels elements ≡ T →
      T.weight < 1000 → count_of T (T.weight + 1) ≤ 2000000 →
      Whole levels elements → IsNext T rows (free_of T rows) (map basis fresh) (map tree fresh) (map code_of fresh) (through_of level) (images level)
      (entries level) →
      (later : List L) (all : List E) → later ≡ levels ++ level ∷ [] → all ≡ elements ++ fresh → Whole later all × (view later all ≡ push_of T rows)
  pushed_fields levels level elements fresh T rows is below few whole next later all is_later is_all =
      let old : PlainTable = view levels elements in
      let here : IsNext old rows (free_of old rows) (map basis fresh) (map tree fresh) (map code_of fresh) (through_of level) (images level) (entries level) =
      subst (λ U. IsNext U rows (free_of U rows) (map basis fresh) (map tree fresh) (map code_of fresh) (through_of level) (images level)
      (entries level)) (sym is) next in
      let light : old.weight < 1000 = subst (λ U. U.weight < 1000) (sym is) below in
      let many : count_of old (old.weight + 1) ≤ 2000000 = subst (λ U. count_of U (U.weight + 1) ≤ 2000000) (sym is) few in
      let symbols_few : length (symbols_in old) ≤ 2000000 = rw (add-one, symbols_next old) at many in
      let same : view (levels ++ level ∷ []) (elements ++ fresh) ≡ push_of old rows =
      view_more levels level elements fresh ∙ push_is old rows (map basis fresh) (map tree fresh) (map code_of fresh) (through_of level)
      (images level) (entries level) here in
      let kept : IsWhole (push_of old rows) (map through_of levels ++ through_of level ∷ []) (map tree elements ++ map tree fresh)
      (map code_of elements ++ map code_of fresh) =
      push_whole old rows (map through_of levels) (map tree elements) (map code_of elements) (map basis fresh) (map tree fresh) (map code_of fresh)
      (through_of level) (images level) (entries level) light symbols_few (length-map levels through_of) whole here in (
        rw (is_later, is_all, same, map-append through_of levels (level ∷ []), map-append tree elements fresh, map-append code_of elements fresh) kept,
        rw (is_later, is_all) (same ∙ ap (λ U. push_of U rows) is),
      )

pub ok_items : {A B E : Type 0} (r : Result A E) (xs ys zs : List B) → IsOk r → zs ≡ (if is_ok r then xs else ys) → zs ≡ xs
ok_items (Ok x) xs ys zs h e = e
ok_items (Err x) xs ys zs h e = absurd cc

pub ok_always : {A E : Type 0} (P : Type 0) (r : Result A E) → P → OnOk r P
ok_always P (Ok x) p = p
ok_always P (Err x) p = tt
