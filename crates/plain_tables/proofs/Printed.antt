-- What the printed trees are and what their values are.
use Rattle.std.specs.Prelude.{ℕ, ◌≡◌, ◌<◌, length}
use mathlib.Core.Path.{sym, refl, ap, ◌∙◌}
use Rattle.math_fields.specs.Field.{Field}
use Rattle.math_linear.specs.Vector.{place}
use Rattle.fpl_numbers.specs.Kinds.{field_of}
use Rattle.math_algebra.specs.Tree.{Presentation}
use Rattle.math_algebra.specs.Degrees.{IsSoundPresentation}
use Rattle.math_algebra.specs.Derives.{Expression}
use Rattle.math_algebra.specs.Table.{Table, val}
use Rattle.math_algebra.specs.Standard.{IsStandard}
use Rattle.math_algebra.proofs.Equations.{sound_homogeneous}
use Rattle.math_standard.proofs.BuiltFacts.{built_whole}
use Rattle.math_standard.proofs.Agreement.{standard_twins}
use Rattle.math_theorems.proofs.StandardLaws.{standard_is_built, standard_is_sound}
use Rattle.fpl_model.specs.Meaning.{presentation_in}
use Rattle.fpl_table.specs.Plain.{table_in}
use Rattle.fpl_table.specs.Standard.{printed_tree}
use Rattle.plain_tables.specs.Printed.{StandardTreesArePrinted, PrintedAreOver, PrintedHaveValues}
use Rattle.plain_tables.proofs.Holding.{sound_is_sound}
use Rattle.plain_tables.proofs.Trees.{tree_printed}

-- the value of a basis element's tree
tree_value : (K : Field) (P : Presentation K.Carrier) → IsSoundPresentation P → (T : Table K) (tree : ℕ → Expression K) → IsStandard K P T tree →
    (i : ℕ) → i < length T.basis → val K T (tree i) ≡ place K i
tree_value K P s T tree h i l =
    let w = built_whole K P (sound_homogeneous P s) T (standard_is_built K P s T tree h) in
    ap (val K T) (sym ((standard_twins K P s.over T T w.tree tree w.standard h refl).trees i l)) ∙ w.facts.tree_val i l

pub standard_printed : StandardTreesArePrinted
standard_printed p T tree h i l = tree_printed p.field (presentation_in p) (table_in p.field T) tree h i l

pub printed_over : PrintedAreOver
printed_over p d T s t i l = (standard_is_sound (field_of p.field) (presentation_in p) (sound_is_sound p s) (table_in p.field T)
    (printed_tree p T) t.standard).over i l

pub printed_values : PrintedHaveValues
printed_values p d T s t i l = tree_value (field_of p.field) (presentation_in p) (sound_is_sound p s) (table_in p.field T) (printed_tree p T) t.standard i l
