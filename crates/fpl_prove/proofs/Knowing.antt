-- What is known after a weight is learnt.
use Rattle.std.proofs.Common.{◌≡◌, ◌≤◌, ◌<◌, ◌+◌, ◌^◌, ◌++◌, ℕ, zero, suc, List, [], ◌∷◌, length, map, get_or, refl, ap, sym, subst, ◌∙◌, arith, All}
use Rattle.std.specs.Prelude.{slice_get, Some}
use Rattle.std.proofs.lemmas.List.{length-append, length-map, get_or-map}
use Rattle.std.proofs.lemmas.Option.{slice_get_within}
use Rattle.fpl_numbers.specs.declared.number.Num.{Num}
use Rattle.math_algebra.specs.Symbols.{no_symbol}
use Rattle.fpl_rows.specs.Meaning.{pivot_of, AreRows}
use Rattle.fpl_rows.proofs.Fits.{some_same, none_some}
use Rattle.fpl_log.specs.declared.section.Section.{Section}
use Rattle.fpl_model.specs.declared.expr.Expr.{Expr}
use Rattle.fpl_model.specs.declared.expr.Expr.TheVariants.{Zero}
use Rattle.fpl_model.specs.declared.presentation.Presentation.{Presentation}
use Rattle.fpl_model.specs.Meaning.{plain}
use Rattle.fpl_table.specs.Plain.{PlainTable, symbols_in}
use Rattle.fpl_table.specs.Push.{free_of, push_of}
use Rattle.fpl_table.specs.Standard.{count_of}
use Rattle.fpl_table.specs.Shape.{basis_trees}
use Rattle.fpl_table.proofs.Pushed.{symbols_next}
use Rattle.fpl_table.proofs.PushedTrees.{length-grown}
use Rattle.plain_tables.specs.Holds.{Holds}
use Rattle.plain_tables.proofs.Holding.{push_holds}
use Rattle.plain_sources.proofs.HeldTables.{is_field}
use Rattle.fpl_check.specs.Premises.{IsSectionFor}
use Rattle.fpl_check.specs.Check.{Accepts, rows_stored}
use Rattle.fpl_check.proofs.StoredRows.{stored_rows}
use Rattle.fpl_check.proofs.LawsPassed.{accepted_closed, accepted_spans}
use Rattle.fpl_forms.specs.Ledgers.{PlainLedger, IsExpr}
use Rattle.fpl_table_facts.specs.declared.known.Level.{Level}
use Rattle.fpl_table_facts.specs.declared.known.Known.{Known}
use Rattle.fpl_table_facts.specs.declared.known.Next.{Next}
use Rattle.fpl_table_facts.specs.Known.{symbol_expr, IsFormOf, IsLevel, IsKnown, IsNext}
use Rattle.fpl_prove.specs.Learning.{free_below, trees_at, AreValues}
use Rattle.fpl_prove.proofs.Leading.{free_same}
use Rattle.fpl_table_facts.proofs.Nexts.{basis_size, next_before}
use Rattle.fpl_prove.proofs.Pushing.{symbol_more, symbols_pushed, level_more, basis_pushed, over_pushed}

-- an item of a list with one more
more_cases : {A : Type 0} (P : ℕ → A → Type 0) (xs : List A) (x : A) → ((i : ℕ) (y : A) → slice_get xs i ≡ Some y → P i y) → P (length xs) x →
    (i : ℕ) (y : A) → slice_get (xs ++ x ∷ []) i ≡ Some y → P i y
more_cases P [] x h is zero y e = subst (P 0) (some_same e) is
more_cases P [] x h is (suc i) y e = absurd (none_some e)
more_cases P (z ∷ xs) x h is zero y e = h zero y e
more_cases P (z ∷ xs) x h is (suc i) y e = more_cases (λ j w. P (suc j) w) xs x (λ j w g. h (suc j) w g) is i y e

pub count_next : (T : PlainTable) → count_of T (T.weight + 1) ≡ length (symbols_in T)
count_next T = let one : T.weight + 1 ≡ suc T.weight = omega arith in ap (count_of T) one ∙ ap length (symbols_next T)

pub stored_are : (p : Presentation) (T : PlainTable) (s : Section) → Holds p T → IsSectionFor T s → AreRows T.kind (length (symbols_in T)) (rows_stored T s)
stored_are p T s holds section = stored_rows T.kind (is_field p T holds) (length (symbols_in T)) s.closed section.numbers.closed

pub pushed_holds : (p : Presentation) (T : PlainTable) (s : Section) → Holds p T → T.weight < 1000 → length (symbols_in T) ≤ 2000000 → IsSectionFor T s →
    Accepts T p s (rows_stored T s) → Holds p (push_of T (rows_stored T s))
pushed_holds p T s holds below few section accepts =
    push_holds p T (rows_stored T s) holds below few (accepted_closed p T s holds section (rows_stored T s) accepts)
    (accepted_spans p T s holds section (rows_stored T s) accepts)

module _ (L : PlainLedger) (k : Known) (h : IsKnown L k) (n : Next) (next : IsNext L k n) where
  abbrev T : PlainTable
  T = k.table

  trees_are : n.trees.items ≡ map (symbol_expr k.basis.items) (symbols_in T)
  trees_are = next.trees ∙ ap (map (symbol_expr k.basis.items)) next.symbols

  pub trees_size : length n.trees.items ≡ length (symbols_in T)
  trees_size = ap length trees_are ∙ length-map (symbols_in T) (symbol_expr k.basis.items)

  pub basis_is : (rows : List (List Num)) (leads : List ℕ) (basis : List Expr) → leads ≡ map pivot_of rows →
      basis ≡ k.basis.items ++ trees_at n.trees.items (free_below leads (length n.trees.items)) →
      basis ≡ k.basis.items ++ trees_at n.trees.items (free_of T rows)
  basis_is rows leads basis e is =
      is ∙ ap (λ ls. k.basis.items ++ trees_at n.trees.items (free_below ls (length n.trees.items))) e
      ∙ ap (λ m. k.basis.items ++ trees_at n.trees.items (free_below (map pivot_of rows) m)) trees_size
      ∙ ap (λ ss. k.basis.items ++ trees_at n.trees.items ss) (sym (free_same rows (length (symbols_in T))))

  module _ (rows : List (List Num)) (holds : Holds L.presentation (push_of T rows)) (basis : List Expr)
      (is : basis ≡ k.basis.items ++ trees_at n.trees.items (free_of T rows)) where
    plains : map plain basis ≡ basis_trees (push_of T rows)
    plains = ap (map plain) is ∙ basis_pushed T h.holds.shape rows L.presentation k.basis.items n.trees.items h.basis trees_are

    pub basis_over : All (IsExpr L.presentation) basis
    basis_over = subst (All (IsExpr L.presentation)) (sym is)
        (over_pushed T h.holds.shape rows L.presentation k.basis.items n.trees.items h.basis trees_are h.over next.over)

    pub basis_few : length basis < 2 ^ 32
    basis_few =
        let a = sym (length-map basis plain) ∙ ap length plains ∙ length-grown [] (push_of T rows).basis in
        let b = holds.shape.small in
        let c = holds.shape.weight in
        omega (arith, a, b, c)

    new_level : (l : Level) → l.symbols ≡ n.symbols → length l.values.items ≡ length n.trees.items → AreValues L basis n.trees.items l.values.items →
        IsLevel L (push_of T rows) basis (suc T.weight) l
    new_level l e count values = record {
      weight = ap (λ s. s.weight) e ∙ next.weight;
      symbols = ap (λ s. s.symbols) e ∙ next.symbols ∙ sym (symbols_next T) ∙ sym (symbols_pushed T h.holds.shape rows (suc T.weight) (omega arith));
      count = count ∙ trees_size ∙ ap length (sym next.symbols) ∙ ap (λ s. length s.symbols) (sym e);
      values = λ s f g.
          let short : s < length (symbols_in T) = (
          let a = slice_get_within l.values.items s f g in let b = count in let c = trees_size in omega (arith, a, b, c)) in
          let x = get_or (symbols_in T) s no_symbol in
          let before = next_before T (symbols_in T) (length k.basis.items) refl (basis_size L k h) s no_symbol short in
          let tree : get_or n.trees.items s Zero ≡ symbol_expr basis x =
          ap (λ es. get_or es s Zero) trees_are ∙ get_or-map (symbol_expr k.basis.items) (symbols_in T) s no_symbol Zero short
          ∙ sym (symbol_more L k.basis.items (trees_at n.trees.items (free_of T rows)) x before) ∙ ap (λ es. symbol_expr es x) (sym is) in
          let here : x ≡ get_or l.symbols.symbols s no_symbol = ap (λ xs. get_or xs s no_symbol) (sym next.symbols)
          ∙ ap (λ ss. get_or ss.symbols s no_symbol) (sym e) in
          subst (λ (e : Expr). IsFormOf L basis e f) (tree ∙ ap (symbol_expr basis) here) (values s f g);
    }

    pub known_next : (m : Known) (l : Level) → m.table ≡ push_of T rows → m.basis.items ≡ basis → m.levels.items ≡ k.levels.items ++ l ∷ [] →
        l.symbols ≡ n.symbols → length l.values.items ≡ length n.trees.items → AreValues L basis n.trees.items l.values.items → IsKnown L m
    known_next m l table items levels e count values = record {
      holds = subst (Holds L.presentation) (sym table) holds;
      basis = ap (map plain) items ∙ plains ∙ ap basis_trees (sym table);
      over = subst (All (IsExpr L.presentation)) (sym items) basis_over;
      count = (
          let a = ap length levels ∙ length-append k.levels.items (l ∷ []) in let b = h.count in let c = ap (λ S. S.weight) table in omega (arith, a, b, c));
      levels = λ v j g.
          subst (λ (S : PlainTable). IsLevel L S m.basis.items (suc v) j) (sym table)
          (subst (λ (es : List Expr). IsLevel L (push_of T rows) es (suc v) j) (sym items)
          (more_cases (λ v j. IsLevel L (push_of T rows) basis (suc v) j) k.levels.items l (λ i j g. old i j g)
          (let at : T.weight ≡ length k.levels.items = sym h.count in
          subst (λ (v : ℕ). IsLevel L (push_of T rows) basis (suc v) l) at (new_level l e count values)) v j
          (ap (λ ls. slice_get ls v) (sym levels) ∙ g)));
    }
      where
        old : (i : ℕ) (j : Level) → slice_get k.levels.items i ≡ Some j → IsLevel L (push_of T rows) basis (suc i) j
        old i j g =
            let a = slice_get_within k.levels.items i j g in
            let b = h.count in
            subst (λ (es : List Expr). IsLevel L (push_of T rows) es (suc i) j) (sym is)
            (level_more T h.holds.shape rows L k.basis.items (trees_at n.trees.items (free_of T rows)) (suc i) j (basis_size L k h) (omega (arith, a, b))
            (h.levels i j g))
