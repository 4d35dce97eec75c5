-- The bracket monomials that a table prints.
--
--   StandardTreesArePrinted   the expressions of a standard table's basis elements are the printed trees, however the table was come by
--   PrintedAreOver            they are expressions over the presentation
--   PrintedHaveValues         the value of a basis element's printed tree is that basis element
use Rattle.std.specs.Prelude.{ℕ, ◌≡◌, ◌<◌, length}
use Rattle.math_linear.specs.Vector.{place}
use Rattle.fpl_numbers.specs.Kinds.{Number, field_of}
use Rattle.math_algebra.specs.Tree.{Tree, IsOver}
use Rattle.math_algebra.specs.Table.{val}
use Rattle.math_algebra.specs.Standard.{IsStandard}
use Rattle.fpl_model.specs.declared.presentation.Presentation.{Presentation}
use Rattle.fpl_model.specs.Meaning.{presentation_in}
use Rattle.fpl_model.specs.Sound.{IsSound}
use Rattle.fpl_table.specs.Plain.{PlainTable, table_in}
use Rattle.fpl_table.specs.Standard.{IsTableOf, printed_tree}

abbrev pub StandardTreesArePrinted : Type 0
StandardTreesArePrinted =
    (p : Presentation) (T : PlainTable) (tree : ℕ → Tree (Number p.field)) → IsStandard (field_of p.field) (presentation_in p) (table_in p.field T) tree →
    (i : ℕ) → i < length T.basis → tree i ≡ printed_tree p T i

abbrev pub PrintedAreOver : Type 0
PrintedAreOver =
    (p : Presentation) (d : ℕ) (T : PlainTable) → IsSound p → IsTableOf p d T → (i : ℕ) → i < length T.basis → IsOver (presentation_in p) (printed_tree p T i)

abbrev pub PrintedHaveValues : Type 0
PrintedHaveValues =
    (p : Presentation) (d : ℕ) (T : PlainTable) → IsSound p → IsTableOf p d T → (i : ℕ) → i < length T.basis →
    val (field_of p.field) (table_in p.field T) (printed_tree p T i) ≡ place (field_of p.field) i
