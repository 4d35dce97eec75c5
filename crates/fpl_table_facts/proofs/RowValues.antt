-- Rows of expressions of the next weight, by the form of the expression, and from the numbers of facts.
use Rattle.std.proofs.Common.{◌≡◌, ◌<◌, ◌-◌, ℕ, suc, List, [], ◌∷◌, length, map, refl, ap, ap₂, sym, ◌∙◌, arith, All}
use mathlib.Core.Path.{fun_ext}
use Rattle.math_fields.specs.Field.{Field}
use Rattle.math_linear.specs.Vector.{Vector, vzero, vplus, scale, place, bilinear}
use Rattle.math_linear.proofs.Linear.{linear_vzero, bilinear_left, bilinear_right}
use Rattle.fpl_numbers.specs.declared.number.Num.{Num}
use Rattle.fpl_numbers.specs.Kinds.{field_of, number_of}
use Rattle.math_algebra.specs.Tree.{Presentation as Abstract}
use Rattle.math_algebra.specs.Derives.{Expression, sum_all}
use Rattle.math_algebra.specs.Table.{Table, of_generator}
use Rattle.math_algebra.specs.Symbols.{place_of, pair_number, generator_number}
use Rattle.math_algebra.specs.SourceRows.{outer_place, outer, row_of}
use Rattle.fpl_model.specs.declared.expr.Expr.{Expr}
use Rattle.fpl_model.specs.declared.expr.Expr.TheVariants.{Gen, Zero, Sum, Times, Br}
use Rattle.fpl_model.specs.declared.presentation.Presentation.{Presentation}
use Rattle.fpl_model.specs.Meaning.{tree_in, in_field, presentation_in}
use Rattle.fpl_model.proofs.Plain.{plain-Gen}
use Rattle.fpl_table.specs.Plain.{PlainTable, table_in, symbols_in}
use Rattle.plain_tables.specs.Holds.{Holds}
use Rattle.plain_tables.proofs.Holding.{symbols_are_same}
use Rattle.plain_facts.specs.Values.{value_in}
use Rattle.fpl_forms.specs.declared.term.Term.{Term}
use Rattle.fpl_forms.specs.declared.term.Fact.{Fact}
use Rattle.fpl_forms.specs.Laws.{number_in, facts_sum, weighted_rows}
use Rattle.fpl_forms.proofs.Trees.{tree-Zero, tree-Sum, tree-Times, tree-Br}
use Rattle.fpl_table_facts.specs.Rows.{expr_row, pair_leaf}
use Rattle.fpl_table_facts.proofs.TermTotals.{numbers_at, both_totals, rows_sum, head_same, tail_same}

module _ (K : Field) (T : Table K) (number : ℕ → ℕ → ℕ) where
  pub vzero_outer : (y : Vector K) → outer K T number (vzero K) y ≡ vzero K
  unfolding outer
  vzero_outer y = linear_vzero K _ (bilinear_left K (length T.basis) (outer_place K T number) y)

  pub outer_vzero : (x : Vector K) → outer K T number x (vzero K) ≡ vzero K
  unfolding outer
  outer_vzero x = linear_vzero K _ (bilinear_right K (length T.basis) (outer_place K T number) x)

module _ (p : Presentation) (T : PlainTable) where
  abbrev K : Field
  K = field_of p.field

  abbrev V : Table K
  V = table_in p.field T

  abbrev P : Abstract K.Carrier
  P = presentation_in p

  abbrev row : Expression K → Vector K
  row e = row_of K V (pair_number P V) (generator_number P V) e

  pub row_Zero : expr_row p T Zero ≡ vzero K
  unfolding row_of
  row_Zero = ap row (tree-Zero p.field)

  pub row_Gen : (g : ℕ) → expr_row p T (Gen g) ≡ place K (generator_number P V (g - 1))
  unfolding row_of
  row_Gen g = ap (λ t. row (in_field p.field t)) (plain-Gen g)

  pub row_generator : Holds p T → (g : ℕ) → place K (place_of (of_generator (g - 1)) (symbols_in T)) ≡ expr_row p T (Gen g)
  row_generator h g = ap (λ xs. place K (place_of (of_generator (g - 1)) xs)) (symbols_are_same p T h.kind h.generators).0 ∙ sym (row_Gen g)

  pub row_Times : (c : Num) (e : Expr) (i : ℕ) → expr_row p T (Times c e) i ≡ K.times (number_of p.field c) (expr_row p T e i)
  unfolding row_of scale
  row_Times c e i = ap (λ t. row t i) (tree-Times p.field c e)

  pub row_Br : (a b : Expr) → expr_row p T (Br a b) ≡ outer K V (pair_number P V) (value_in p T a) (value_in p T b)
  unfolding row_of
  row_Br a b = ap row (tree-Br p.field a b)

  row_end : (i : ℕ) → row (sum_all K []) i ≡ K.nought
  unfolding row_of vzero
  row_end i = refl

  row_more : (e : Expression K) (es : List (Expression K)) (i : ℕ) → row (sum_all K (e ∷ es)) i ≡ K.plus (row e i) (row (sum_all K es) i)
  unfolding row_of vplus
  row_more e es i = refl

  abbrev pub rows_at : List Expr → ℕ → List K.Carrier
  rows_at es i = map (λ e. expr_row p T e i) es

  members_sum : (es : List Expr) (fs : List Fact) (i : ℕ) → numbers_at p.field fs i ≡ rows_at es i →
      facts_sum p.field fs i ≡ row (sum_all K (map (tree_in p.field) es)) i
  members_sum [] [] i e = sym (row_end i)
  members_sum [] (f ∷ fs) i e = absurd (let n : suc (length (numbers_at p.field fs i)) ≡ 0 = ap length e in omega (arith, n))
  members_sum (x ∷ es) [] i e = absurd (let n : 0 ≡ suc (length (rows_at es i)) = ap length e in omega (arith, n))
  members_sum (x ∷ es) (f ∷ fs) i e =
      ap₂ K.plus (head_same p.field _ _ _ _ e) (members_sum es fs i (tail_same p.field _ _ _ _ e))
      ∙ sym (row_more (tree_in p.field x) (map (tree_in p.field) es) i)

  -- the numbers of facts, added
  pub row_Sum : (es : List Expr) (fs : List Fact) (i : ℕ) → numbers_at p.field fs i ≡ rows_at es i → facts_sum p.field fs i ≡ expr_row p T (Sum es) i
  row_Sum es fs i e = members_sum es fs i e ∙ sym (ap (λ t. row t i) (tree-Sum p.field es))

  outer_is : (x y : Vector K) → outer K V (pair_number P V) x y ≡ bilinear K (length T.basis) (pair_leaf p T) x y
  unfolding outer
  outer_is x y = refl

  -- the numbers of leaves, each times those of its two atoms
  pub row_leaves : (a b : Expr) (ss ts : List Term) (rows : List (List Fact)) (i : ℕ) →
      All (λ t. t.atom < length T.basis) ss → All (λ t. t.atom < length T.basis) ts →
      ((m : ℕ) → number_in p.field ss m ≡ value_in p T a m) → ((m : ℕ) → number_in p.field ts m ≡ value_in p T b m) →
      map (λ fs. numbers_at p.field fs i) rows ≡ map (λ s. map (λ t. pair_leaf p T s.atom t.atom i) ts) ss →
      weighted_rows p.field ss ts rows i ≡ expr_row p T (Br a b) i
  row_leaves a b ss ts rows i h l x y e =
      rows_sum p.field ss ts rows (pair_leaf p T) i e
      ∙ ap (λ v. v i) (both_totals p.field (length T.basis) (pair_leaf p T) ss ts h l
      ∙ ap₂ (bilinear K (length T.basis) (pair_leaf p T)) (fun_ext x) (fun_ext y)
      ∙ sym (row_Br a b ∙ outer_is (value_in p T a) (value_in p T b)))
