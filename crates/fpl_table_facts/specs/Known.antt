-- What is known of a table while a proof is made: its basis as expressions, and for each symbol a form over the basis.
--
--   weight_in p e          the weight of an expression
--   is_reached d w         no weight, or one of at most d
--   is_next d w            no weight, or the one after d
--   IsReached p d e        an expression over p, of few places, that has no weight or one of at most d
--   symbol_expr basis x    the expression of a symbol: a generator, or the bracket of two basis elements
--   IsFormOf L atoms e f   a fact with left side e, whose terms are a form
--   IsLevel L T basis v l  the symbols of weight v, with a form over the basis for each
--   IsKnown L k            a held table, the expressions of its basis elements, and a level for each of its weights
--   IsNext L k n           the symbols of the weight after the table's, with their expressions
use Rattle.std.specs.Prelude.{ℕ, suc, ◌≡◌, ◌+◌, ◌<◌, ◌^◌, List, length, map, get_or, slice_get, Some, Bool, true, false, nat_le, nat_eq, All}
use Rattle.math_algebra.specs.Degrees.{Degree, any, exact, mixed, weight_of}
use Rattle.math_algebra.specs.Table.{Symbol, of_generator, of_pair}
use Rattle.math_algebra.specs.Symbols.{no_symbol, symbols_of}
use Rattle.fpl_model.specs.declared.expr.Expr.{Expr}
use Rattle.fpl_model.specs.declared.expr.Expr.TheVariants.{Gen, Zero, Br}
use Rattle.fpl_model.specs.declared.presentation.Presentation.{Presentation}
use Rattle.fpl_model.specs.Meaning.{plain, tree_in, presentation_in}
use Rattle.fpl_model.specs.Sound.{count_tree}
use Rattle.fpl_table.specs.Plain.{PlainTable, table_in, shell_in, symbols_in}
use Rattle.fpl_table.specs.Shape.{basis_trees}
use Rattle.plain_tables.specs.Holds.{Holds}
use Rattle.fpl_forms.specs.declared.term.Fact.{Fact}
use Rattle.fpl_forms.specs.Ledgers.{PlainLedger, IsExpr}
use Rattle.fpl_forms.specs.Laws.{IsForm}
use Rattle.fpl_facts.specs.Facts.{IsFact}
use Rattle.fpl_table_facts.specs.declared.known.Level.{Level}
use Rattle.fpl_table_facts.specs.declared.known.Known.{Known}
use Rattle.fpl_table_facts.specs.declared.known.Next.{Next}

abbrev pub weight_in : Presentation → Expr → Degree ℕ
weight_in p e = weight_of (presentation_in p) (tree_in p.field e)

abbrev pub is_reached : ℕ → Degree ℕ → Bool
is_reached d any = true
is_reached d (exact w) = nat_le w d
is_reached d mixed = false

abbrev pub is_next : ℕ → Degree ℕ → Bool
is_next d any = true
is_next d (exact w) = nat_eq w (suc d)
is_next d mixed = false

pub record IsReached (p : Presentation) (d : ℕ) (e : Expr) : Type 0 where
  pub over : IsExpr p e
  pub few : count_tree (plain e) < 2 ^ 40
  pub weight : is_reached d (weight_in p e) ≡ true

abbrev pub symbol_expr : List Expr → Symbol → Expr
symbol_expr basis (of_generator g) = Gen (g + 1)
symbol_expr basis (of_pair i j) = Br (get_or basis i Zero) (get_or basis j Zero)

pub record IsFormOf (L : PlainLedger) (atoms : List Expr) (e : Expr) (f : Fact) : Type 0 where
  pub fact : IsFact L atoms e f
  pub form : IsForm L.prime (length atoms) f.terms.items

pub record IsLevel (L : PlainLedger) (T : PlainTable) (basis : List Expr) (v : ℕ) (l : Level) : Type 0 where
  pub weight : l.symbols.weight ≡ v
  pub symbols : l.symbols.symbols ≡ symbols_of (shell_in T.kind T) (table_in T.kind T) v
  pub count : length l.values.items ≡ length l.symbols.symbols
  pub values : (s : ℕ) (f : Fact) → slice_get l.values.items s ≡ Some f →
      IsFormOf L basis (symbol_expr basis (get_or l.symbols.symbols s no_symbol)) f

pub record IsKnown (L : PlainLedger) (k : Known) : Type 0 where
  pub holds : Holds L.presentation k.table
  pub basis : map plain k.basis.items ≡ basis_trees k.table
  pub over : All (IsExpr L.presentation) k.basis.items
  pub count : length k.levels.items ≡ k.table.weight
  pub levels : (v : ℕ) (l : Level) → slice_get k.levels.items v ≡ Some l → IsLevel L k.table k.basis.items (suc v) l

pub record IsNext (L : PlainLedger) (k : Known) (n : Next) : Type 0 where
  pub weight : n.symbols.weight ≡ suc k.table.weight
  pub symbols : n.symbols.symbols ≡ symbols_in k.table
  pub trees : n.trees.items ≡ map (symbol_expr k.basis.items) n.symbols.symbols
  pub over : All (IsExpr L.presentation) n.trees.items
