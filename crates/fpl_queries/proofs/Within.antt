-- A query that isn't past the table's weight has sides within it, and one value exactly where they are derivably equal.
use Rattle.std.proofs.Common.{◌≡◌, ◌∙◌, ℕ, ◌<◌, ◌≤◌, Bool, true, false, refl, sym, ap, subst, arith}
use Rattle.std.specs.Prelude.{◌↔◌, nat_lt, length}
use Rattle.std.proofs.lemmas.Bool.Decides.{nat_tests}
use Rattle.std.proofs.lemmas.List.{length-map}
use Rattle.fpl_numbers.specs.Kinds.{field_of}
use Rattle.math_algebra.specs.Tree.{IsOver}
use Rattle.math_algebra.specs.Degrees.{Degree, any, exact, mixed, top}
use Rattle.math_theorems.proofs.ValueLaws.{weight_bounds_top}
use Rattle.fpl_model.specs.declared.presentation.Presentation.{Presentation}
use Rattle.fpl_model.specs.declared.presentation.Equation.{Equation}
use Rattle.fpl_model.specs.declared.expr.Expr.{Expr}
use Rattle.fpl_model.specs.Meaning.{plain, tree_in, generator_in, presentation_in}
use Rattle.fpl_model.specs.Sound.{IsSound, IsWithin, IsSoundEquation}
use Rattle.fpl_table.specs.Plain.{PlainTable}
use Rattle.fpl_table.specs.Standard.{IsTableOf}
use Rattle.plain_tables.proofs.Holding.{within_over}
use Rattle.fpl_queries.specs.Queries.{weight_in, is_past, is_beyond, IsBeyond, HaveOneValue, AreEqual}

bool_no : false ≡ true → ⊥
bool_no e = cc

past_is : (d w : ℕ) → nat_lt d w ≡ true → d < w
past_is d w e = grind (arith, nat_tests)

past_if : (d w : ℕ) → d < w → nat_lt d w ≡ true
past_if d w l = grind (arith, nat_tests)

not_past : (d w : ℕ) → nat_lt d w ≡ false → w ≤ d
not_past d w e = grind (arith, nat_tests)

module _ (p : Presentation) where
  pub sides_over : (e : Expr) → IsWithin p.field (length p.generators) (plain e) → IsOver (presentation_in p) (tree_in p.field e)
  sides_over e h =
      within_over p.field (presentation_in p) (plain e) (subst (λ n. IsWithin p.field n (plain e)) (sym (length-map p.generators generator_in)) h)

  module _ (T : PlainTable) (q : Equation) where
    -- what the test tells
    pub not_beyond : is_beyond p T q ≡ false → IsBeyond p T q → ⊥
    not_beyond f b = bool_no (sym f ∙ ap (is_past T.weight) b.1 ∙ past_if T.weight b.0 b.2)

    module _ (s : IsSoundEquation p q) where
      beyond_by : (d : Degree ℕ) → weight_in p q ≡ d → is_past T.weight d ≡ true → IsBeyond p T q
      beyond_by any e f = absurd (bool_no f)
      beyond_by (exact w) e f = (w, e, past_is T.weight w f)
      beyond_by mixed e f = absurd (bool_no f)

      pub beyond_if : is_beyond p T q ≡ true → IsBeyond p T q
      beyond_if f = beyond_by (weight_in p q) refl f

      tops_by : (d : Degree ℕ) → weight_in p q ≡ d → is_past T.weight d ≡ false →
          (top (presentation_in p) (tree_in p.field q.left) ≤ T.weight) × (top (presentation_in p) (tree_in p.field q.right) ≤ T.weight)
      tops_by any e f =
          let r = (weight_bounds_top (field_of p.field) (presentation_in p) (tree_in p.field q.left) (tree_in p.field q.right) (sides_over q.left s.0.0)
          (sides_over q.right s.1.0)).1 e in
          (omega (arith, r.0), omega (arith, r.1))
      tops_by (exact w) e f =
          let r = (weight_bounds_top (field_of p.field) (presentation_in p) (tree_in p.field q.left) (tree_in p.field q.right) (sides_over q.left s.0.0)
          (sides_over q.right s.1.0)).0 w e in
          let l = not_past T.weight w f in
          (omega (arith, r.0, l), omega (arith, r.1, l))
      tops_by mixed e f = absurd (s.2.0 e)

      within : (IsBeyond p T q → ⊥) → is_beyond p T q ≡ false
      within near = go (is_beyond p T q) refl
        where
          go : (b : Bool) → is_beyond p T q ≡ b → b ≡ false
          go true e = absurd (near (beyond_if e))
          go false e = refl

      pub one_value : IsTableOf p T.weight T → (IsBeyond p T q → ⊥) → HaveOneValue p T q ↔ AreEqual p q
      one_value table near =
          let t = tops_by (weight_in p q) refl (within near) in
          table.values (tree_in p.field q.left) (tree_in p.field q.right) (sides_over q.left s.0.0) (sides_over q.right s.1.0) t.0 t.1
