-- Facts that are the rows of expressions, from those that they come from.
use Rattle.std.proofs.Common.{◌≡◌, ◌<◌, ◌+◌, ◌++◌, ℕ, suc, List, [], ◌∷◌, length, map, get_or, ap, ap₂, sym, subst, ◌∙◌, arith, All}
use mathlib.Core.Path.{fun_ext}
use Rattle.math_linear.specs.Vector.{Vector, vzero}
use Rattle.fpl_numbers.specs.declared.number.Num.{Num}
use Rattle.fpl_numbers.specs.Numbers.{residue}
use Rattle.fpl_numbers.specs.Kinds.{field_of, number_of}
use Rattle.math_algebra.specs.Degrees.{any, exact}
use Rattle.math_algebra.specs.Symbols.{pair_number}
use Rattle.math_algebra.specs.SourceRows.{outer}
use Rattle.fpl_model.specs.declared.expr.Expr.{Expr}
use Rattle.fpl_model.specs.declared.expr.Expr.TheVariants.{Zero, Sum, Times, Br}
use Rattle.fpl_model.specs.Meaning.{presentation_in}
use Rattle.fpl_table.specs.Plain.{plain_basis, table_in}
use Rattle.plain_facts.specs.Values.{value_in}
use Rattle.fpl_forms.specs.declared.term.Term.{Term}
use Rattle.fpl_forms.specs.declared.term.Fact.{Fact}
use Rattle.fpl_forms.specs.Ledgers.{PlainLedger, IsSoundLedger, IsExpr, Grows, left_of}
use Rattle.fpl_forms.specs.Forms.{IsWork, IsTermOf, AreTermsOf, tidied}
use Rattle.fpl_forms.specs.Combining.{terms_of, multiplied, joined, bracketed}
use Rattle.fpl_forms.specs.Laws.{number_in, IsForm, AreFactsOf, facts_sum, weighted_rows}
use Rattle.fpl_forms.proofs.Ledgers.{all_one}
use Rattle.fpl_forms.proofs.Gathering.{all_as, all_terms, grows_works, grows_lefts_of}
use Rattle.std.proofs.lemmas.List.{map-append}
use Rattle.std.proofs.lemmas.List.Elements.{All-append}
use Rattle.fpl_forms.proofs.Values.{joined_add_up, bracketed_add_up}
use Rattle.fpl_facts.specs.Facts.{IsFact}
use Rattle.fpl_table_facts.specs.declared.known.Known.{Known}
use Rattle.fpl_table_facts.specs.declared.known.Next.{Next}
use Rattle.fpl_table_facts.specs.Known.{IsKnown, IsFormOf, weight_in}
use Rattle.fpl_table_facts.specs.Rows.{IsRow, AreLeaves, AreRowsOf, expr_row}
use Rattle.fpl_table_facts.proofs.Levels.{basis_length}
use Rattle.fpl_table_facts.proofs.Weights.{fact_numbers, form_weights, void_terms}
use Rattle.fpl_table_facts.proofs.LeafRows.{multiplied_numbers, multiplied_form}
use Rattle.fpl_table_facts.proofs.RowValues.{row_Times, row_Br, row_Sum, row_leaves, vzero_outer, outer_vzero}

module _ {L M : PlainLedger} (g : Grows L M) (k : Known) (n : Next) where
  pub row_after : (e : Expr) (f : Fact) → IsFact M n.trees.items e f → IsForm L.prime (length n.trees.items) f.terms.items →
      ((i : ℕ) → number_in L.presentation.field f.terms.items i ≡ expr_row L.presentation k.table e i) →
      IsRow M n e (expr_row M.presentation k.table e) f
  row_after e f a form numbers = record {
    fact = a;
    form = subst (λ q. IsForm q (length n.trees.items) f.terms.items) (sym g.prime) form;
    numbers = subst (λ p. (i : ℕ) → number_in p.field f.terms.items i ≡ expr_row p k.table e i) (sym g.presentation) numbers;
  }

module _ (L : PlainLedger) (s : IsSoundLedger L) (k : Known) (n : Next) where
  abbrev size : ℕ
  size = length n.trees.items

  abbrev IsFormHere : List Term → Type 0
  IsFormHere ts = IsForm L.prime size ts

  abbrev at : List Term → ℕ → (field_of L.presentation.field).Carrier
  at ts i = number_in L.presentation.field ts i

  abbrev row : Expr → Vector (field_of L.presentation.field)
  row e = expr_row L.presentation k.table e

  pub sum_form : (es : List Expr) (fs : List Fact) → AreRowsOf L k n es fs → (ts : List Term) → ts ≡ tidied L.prime (joined fs) → IsFormHere ts
  sum_form es fs h ts e = subst IsFormHere (sym e) (joined_add_up L.prime size fs s.listed (all_terms L n.trees.items fs h.works)).0

  pub sum_numbers : (es : List Expr) (fs : List Fact) → AreRowsOf L k n es fs → (ts : List Term) → ts ≡ tidied L.prime (joined fs) → (i : ℕ) →
      at ts i ≡ row (Sum es) i
  sum_numbers es fs h ts e i =
      ap (λ ts. at ts i) e
      ∙ subst (λ k. number_in k (tidied L.prime (joined fs)) i ≡ facts_sum k fs i) (sym s.field)
      ((joined_add_up L.prime size fs s.listed (all_terms L n.trees.items fs h.works)).1 i)
      ∙ row_Sum L.presentation k.table es fs i (h.numbers i)

  pub multiple_form : (c : ℕ) (e : Expr) (f : Fact) → IsRow L n e (row e) f → c < L.prime → (ts : List Term) → ts ≡ multiplied L.prime c f.terms.items →
      IsFormHere ts
  multiple_form c e f h lt ts is = subst IsFormHere (sym is) (multiplied_form L s size c f.terms.items lt h.form)

  pub multiple_numbers : (c : ℕ) (x : Num) (e : Expr) (f : Fact) → IsRow L n e (row e) f → c < L.prime → residue c ≡ x → (ts : List Term) →
      ts ≡ multiplied L.prime c f.terms.items → (i : ℕ) → at ts i ≡ row (Times x e) i
  multiple_numbers c x e f h lt r ts is i =
      ap (λ ts. at ts i) is ∙ multiplied_numbers L s size c f.terms.items lt h.form i
      ∙ ap₂ (field_of L.presentation.field).times (ap (number_of L.presentation.field) r) (h.numbers i)
      ∙ sym (row_Times L.presentation k.table x e i)

  module _ (known : IsKnown L k) where
    -- a fact with no terms is one over any atoms
    pub void_work : (e : Expr) (f : Fact) → IsExpr L.presentation e → IsFormOf L k.basis.items e f → weight_in L.presentation e ≡ any → IsWork L n.trees.items f
    void_work e f over h void =
        let none = void_terms L s k known e f over h void in
        let w = h.fact.work in
        record {
          within = w.within;
          right = w.right ∙ ap (λ ts. Sum (map (λ t. Times (residue t.number) (get_or k.basis.items t.atom Zero)) ts)) none
              ∙ sym (ap (λ ts. Sum (map (λ t. Times (residue t.number) (get_or n.trees.items t.atom Zero)) ts)) none);
          terms = subst (AreTermsOf L.prime size) (sym none) (λ i d l. absurd (omega (arith, l)));
        }

    void_value : (e : Expr) (f : Fact) → IsExpr L.presentation e → IsFormOf L k.basis.items e f → weight_in L.presentation e ≡ any →
        value_in L.presentation k.table e ≡ vzero (field_of L.presentation.field)
    unfolding vzero
    void_value e f over h void =
        fun_ext (λ i. sym (fact_numbers L s k known e f h.fact i) ∙ ap (λ ts. at ts i) (void_terms L s k known e f over h void))

    pub void_left_numbers : (a b : Expr) (f : Fact) → IsExpr L.presentation a → IsFormOf L k.basis.items a f → weight_in L.presentation a ≡ any →
        (i : ℕ) → (field_of L.presentation.field).nought ≡ row (Br a b) i
    unfolding vzero
    void_left_numbers a b f over h void i =
        let K = field_of L.presentation.field in
        let V = table_in L.presentation.field k.table in
        let pairs = pair_number (presentation_in L.presentation) V in
        sym (ap (λ v. v i) (row_Br L.presentation k.table a b ∙ ap (λ x. outer K V pairs x (value_in L.presentation k.table b)) (void_value a f over h void)
        ∙ vzero_outer K V pairs (value_in L.presentation k.table b)))

    pub void_right_numbers : (a b : Expr) (f : Fact) → IsExpr L.presentation b → IsFormOf L k.basis.items b f → weight_in L.presentation b ≡ any →
        (i : ℕ) → (field_of L.presentation.field).nought ≡ row (Br a b) i
    unfolding vzero
    void_right_numbers a b f over h void i =
        let K = field_of L.presentation.field in
        let V = table_in L.presentation.field k.table in
        let pairs = pair_number (presentation_in L.presentation) V in
        sym (ap (λ v. v i) (row_Br L.presentation k.table a b ∙ ap (outer K V pairs (value_in L.presentation k.table a)) (void_value b f over h void)
        ∙ outer_vzero K V pairs (value_in L.presentation k.table a)))

    pub atoms_below : (e : Expr) (f : Fact) → IsFormOf L k.basis.items e f → All (λ t. t.atom < length k.basis.items) f.terms.items
    atoms_below e f h = all_as (IsTermOf L.prime (length k.basis.items)) (λ t. t.atom < length k.basis.items) (λ t x. x.0) f.terms.items h.form.terms

    atoms_within : (e : Expr) (f : Fact) → IsFormOf L k.basis.items e f → All (λ t. t.atom < length k.table.basis) f.terms.items
    atoms_within e f h = subst (λ m. All (λ t. t.atom < m) f.terms.items) (basis_length known) (atoms_below e f h)

    -- the weights of the atoms of two forms sum to the next weight
    pub weights_sum : (a b : Expr) (f h : Fact) (v w : ℕ) → IsExpr L.presentation a → IsExpr L.presentation b → IsFormOf L k.basis.items a f →
        IsFormOf L k.basis.items b h → weight_in L.presentation a ≡ exact v → weight_in L.presentation b ≡ exact w → v + w ≡ suc k.table.weight →
        All (λ (s : Term). All (λ (t : Term). (plain_basis k.table s.atom).weight + (plain_basis k.table t.atom).weight ≡ suc k.table.weight) h.terms.items)
        f.terms.items
    weights_sum a b f h v w x y fa fb ea eb sum i d lt j e l =
        let first = form_weights L s k known a f v x fa ea i d lt in
        let second = form_weights L s k known b h w y fb eb j e l in
        omega (arith, first, second, sum)

    pub bracket_form : (a b : Expr) (f h : Fact) (rows : List (List Fact)) → IsFormOf L k.basis.items a f → IsFormOf L k.basis.items b h →
        AreLeaves L k n f.terms.items h.terms.items rows → (ts : List Term) → ts ≡ bracketed L.prime f.terms.items h.terms.items rows → IsFormHere ts
    bracket_form a b f h rows fa fb l ts e =
        subst IsFormHere (sym e) (bracketed_add_up L.prime (length k.basis.items) size f.terms.items h.terms.items rows s.listed fa.form.terms fb.form.terms
        (all_as (All (IsWork L n.trees.items)) (AreFactsOf L.prime size) (λ r w. all_terms L n.trees.items r w) rows l.members.works)).0

    pub bracket_numbers : (a b : Expr) (f h : Fact) (rows : List (List Fact)) → IsFormOf L k.basis.items a f → IsFormOf L k.basis.items b h →
        AreLeaves L k n f.terms.items h.terms.items rows → (ts : List Term) → ts ≡ bracketed L.prime f.terms.items h.terms.items rows → (i : ℕ) →
        at ts i ≡ row (Br a b) i
    bracket_numbers a b f h rows fa fb l ts e i =
        ap (λ ts. at ts i) e
        ∙ subst (λ k. number_in k (bracketed L.prime f.terms.items h.terms.items rows) i ≡ weighted_rows k f.terms.items h.terms.items rows i) (sym s.field)
        ((bracketed_add_up L.prime (length k.basis.items) size f.terms.items h.terms.items rows s.listed fa.form.terms fb.form.terms
        (all_as (All (IsWork L n.trees.items)) (AreFactsOf L.prime size) (λ r w. all_terms L n.trees.items r w) rows l.members.works)).1 i)
        ∙ row_leaves L.presentation k.table a b f.terms.items h.terms.items rows i (atoms_within a f fa) (atoms_within b h fb)
        (fact_numbers L s k known a f fa.fact) (fact_numbers L s k known b h fb.fact) (l.numbers i)

-- rows that are gathered one by one
module _ {L M : PlainLedger} (g : Grows L M) (k : Known) (n : Next) where
  pub grows_rows_of : (es : List Expr) (fs : List Fact) → AreRowsOf L k n es fs → AreRowsOf M k n es fs
  grows_rows_of es fs h = record {
    works = grows_works g n.trees.items fs h.works;
    lefts_are = grows_lefts_of g n.trees.items fs h.works ∙ h.lefts_are;
    numbers = subst (λ p. (i : ℕ) → map (λ f. number_in p.field (terms_of f) i) fs ≡ map (λ e. expr_row p k.table e i) es) (sym g.presentation) h.numbers;
  }

  pub rows_of_more : (es : List Expr) (fs : List Fact) (e : Expr) (f : Fact) → AreRowsOf L k n es fs →
      IsRow M n e (expr_row M.presentation k.table e) f → AreRowsOf M k n (es ++ e ∷ []) (fs ++ f ∷ [])
  rows_of_more es fs e f h r =
      let a = grows_rows_of es fs h in
      record {
        works = All-append (IsWork M n.trees.items) fs (f ∷ []) a.works (all_one (IsWork M n.trees.items) f r.fact.work);
        lefts_are = map-append (λ (f : Fact). left_of M f.line) fs (f ∷ []) ∙ ap₂ (λ xs x. xs ++ x ∷ []) a.lefts_are r.fact.left;
        numbers = λ i. map-append (λ f. number_in M.presentation.field (terms_of f) i) fs (f ∷ []) ∙
            ap₂ (λ xs x. xs ++ x ∷ []) (a.numbers i) (r.numbers i) ∙
            sym (map-append (λ e. expr_row M.presentation k.table e i) es (e ∷ []));
      }
