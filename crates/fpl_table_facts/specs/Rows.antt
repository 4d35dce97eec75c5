-- The row over the symbols of the weight after a table's of an expression of that weight.
--
--   pair_leaf p T i j         an outermost bracket of two basis elements, as a vector over the symbols
--   expr_row p T e            the row of an expression of the weight after the table's
--   IsRow L n e v f           a fact over the symbols with left side e, whose numbers are v
--   IsDue p d e               an expression over p, of few places, that has no weight or the one after d
--   AreRowsOf L k n es fs     facts over the symbols for some expressions, with the numbers of their rows
--   AreLeavesOf L k n s ts fs    facts for the brackets of the atom of s with those of ts, with the numbers of these brackets
--   AreLeaves L k n ss ts rows   the same for the atoms of several terms, row by row
use Rattle.std.specs.Prelude.{ℕ, ◌≡◌, ◌<◌, ◌^◌, true, List, length, map, All}
use Rattle.fpl_numbers.specs.Kinds.{field_of}
use Rattle.math_linear.specs.Vector.{Vector}
use Rattle.math_algebra.specs.Symbols.{pair_number, generator_number}
use Rattle.math_algebra.specs.SourceRows.{outer_place, row_of}
use Rattle.fpl_model.specs.declared.expr.Expr.{Expr}
use Rattle.fpl_model.specs.declared.presentation.Presentation.{Presentation}
use Rattle.fpl_model.specs.Meaning.{plain, tree_in, presentation_in}
use Rattle.fpl_model.specs.Sound.{count_tree}
use Rattle.fpl_table.specs.Plain.{PlainTable, table_in}
use Rattle.fpl_forms.specs.declared.term.Term.{Term}
use Rattle.fpl_forms.specs.declared.term.Fact.{Fact}
use Rattle.fpl_forms.specs.Ledgers.{PlainLedger, IsExpr}
use Rattle.fpl_forms.specs.Forms.{IsWork}
use Rattle.fpl_forms.specs.Combining.{terms_of, lefts, pair_of, atom_of, AreRows}
use Rattle.fpl_forms.specs.Laws.{number_in, IsForm}
use Rattle.fpl_facts.specs.Facts.{IsFact}
use Rattle.fpl_table_facts.specs.declared.known.Known.{Known}
use Rattle.fpl_table_facts.specs.declared.known.Next.{Next}
use Rattle.fpl_table_facts.specs.Known.{is_next, weight_in}

abbrev pub pair_leaf : (p : Presentation) → PlainTable → ℕ → ℕ → Vector (field_of p.field)
pair_leaf p T i j = outer_place (field_of p.field) (table_in p.field T) (pair_number (presentation_in p) (table_in p.field T)) i j

abbrev pub expr_row : (p : Presentation) → PlainTable → Expr → Vector (field_of p.field)
expr_row p T e =
    row_of (field_of p.field) (table_in p.field T) (pair_number (presentation_in p) (table_in p.field T))
    (generator_number (presentation_in p) (table_in p.field T)) (tree_in p.field e)

pub record IsRow (L : PlainLedger) (n : Next) (e : Expr) (v : Vector (field_of L.presentation.field)) (f : Fact) : Type 0 where
  pub fact : IsFact L n.trees.items e f
  pub form : IsForm L.prime (length n.trees.items) f.terms.items
  pub numbers : (i : ℕ) → number_in L.presentation.field f.terms.items i ≡ v i

pub record IsDue (p : Presentation) (d : ℕ) (e : Expr) : Type 0 where
  pub over : IsExpr p e
  pub few : count_tree (plain e) < 2 ^ 40
  pub weight : is_next d (weight_in p e) ≡ true

pub record AreRowsOf (L : PlainLedger) (k : Known) (n : Next) (es : List Expr) (fs : List Fact) : Type 0 where
  pub works : All (IsWork L n.trees.items) fs
  pub lefts_are : lefts L fs ≡ es
  pub numbers : (i : ℕ) → map (λ f. number_in L.presentation.field (terms_of f) i) fs ≡ map (λ e. expr_row L.presentation k.table e i) es

pub record AreLeavesOf (L : PlainLedger) (k : Known) (n : Next) (s : Term) (ts : List Term) (fs : List Fact) : Type 0 where
  pub works : All (IsWork L n.trees.items) fs
  pub lefts_are : lefts L fs ≡ map (pair_of k.basis.items (atom_of k.basis.items s)) ts
  pub numbers : (i : ℕ) → map (λ f. number_in L.presentation.field (terms_of f) i) fs ≡ map (λ t. pair_leaf L.presentation k.table s.atom t.atom i) ts

pub record AreLeaves (L : PlainLedger) (k : Known) (n : Next) (ss ts : List Term) (rows : List (List Fact)) : Type 0 where
  pub members : AreRows L k.basis.items n.trees.items ss ts rows
  pub numbers : (i : ℕ) → map (map (λ f. number_in L.presentation.field (terms_of f) i)) rows
      ≡ map (λ s. map (λ t. pair_leaf L.presentation k.table s.atom t.atom i) ts) ss
