-- The table of a presentation through a weight.
--
--   start_of p             the table through weight 0
--   count_of T w           how many symbols of weight w there are, for w at most one above the table's weight
--   count_through T w      how many of weights 1 to w
--   printed_tree p T i     the bracket tree that is printed for basis element i, over the field of p
--   IsTableOf p d T        T with its printed trees is the standard table of p through d, in canonical numbers that fit; for expressions over p
--                          of top at most d, equal values in it mean derivably equal
--   PassesAt p d e w c     w is the least weight up to d at which the symbols of weights 1 to w number more than e, and c is their number
use Rattle.std.specs.Prelude.{ℕ, zero, suc, ◌≡◌, ◌≤◌, ◌<◌, ◌+◌, ◌-◌, ◌↔◌, [], length, get_or, All}
use Rattle.fpl_numbers.specs.Kinds.{Number, field_of}
use Rattle.fpl_scalar.specs.Vectors.{AreElements}
use Rattle.math_algebra.specs.Tree.{Tree, none, IsOver}
use Rattle.math_algebra.specs.Degrees.{top}
use Rattle.math_algebra.specs.Derives.{Derives}
use Rattle.math_algebra.specs.Table.{val}
use Rattle.math_algebra.specs.Symbols.{symbols_of}
use Rattle.math_algebra.specs.Standard.{IsStandard}
use Rattle.fpl_model.specs.declared.presentation.Presentation.{Presentation}
use Rattle.fpl_model.specs.Meaning.{in_field, generators_in, presentation_in}
use Rattle.fpl_table.specs.Plain.{PlainTable, table_in, shell_in}
use Rattle.fpl_table.specs.Shape.{basis_trees}

abbrev pub start_of : Presentation → PlainTable
start_of p = record { kind = p.field; generators = generators_in p; weight = 0; basis = []; images = []; entries = [] }

abbrev pub count_of : PlainTable → ℕ → ℕ
count_of T w = length (symbols_of (shell_in T.kind T) (table_in T.kind T) w)

abbrev pub count_through : PlainTable → ℕ → ℕ
count_through T zero = 0
count_through T (suc w) = count_through T w + count_of T (suc w)

abbrev pub printed_tree : (p : Presentation) → PlainTable → ℕ → Tree (Number p.field)
printed_tree p T i = in_field p.field (get_or (basis_trees T) i none)

pub record IsTableOf (p : Presentation) (d : ℕ) (T : PlainTable) : Type 0 where
  pub kind : T.kind ≡ p.field
  pub weight : T.weight ≡ d
  pub generators : T.generators ≡ generators_in p
  pub images : All (λ rows. All (AreElements T.kind) rows) T.images
  pub entries : All (λ level. All (λ rows. All (AreElements T.kind) rows) level) T.entries
  pub standard : IsStandard (field_of p.field) (presentation_in p) (table_in p.field T) (printed_tree p T)
  pub values : (e f : Tree (Number p.field)) → IsOver (presentation_in p) e → IsOver (presentation_in p) f →
      top (presentation_in p) e ≤ d → top (presentation_in p) f ≤ d →
      (val (field_of p.field) (table_in p.field T) e ≡ val (field_of p.field) (table_in p.field T) f) ↔ Derives (field_of p.field) (presentation_in p) e f

pub record PassesAt (p : Presentation) (d entries w count : ℕ) : Type 0 where
  pub from_one : 1 ≤ w
  pub to_end : w ≤ d
  pub table : PlainTable
  pub below : IsTableOf p (w - 1) table
  pub number : count_through table w ≡ count
  pub passes : entries < count
  pub least : (v : ℕ) → v < w → count_through table v ≤ entries
