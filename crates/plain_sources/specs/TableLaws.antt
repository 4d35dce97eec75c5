-- The plain run of a table T for a sound presentation p stands for the mathematics over the field of p.
--
--   RowsOfShape           a table with the shape of a table of code has its rows
--   WeightsOfLaw          if it obeys the law of the presentation, it has its weights
--   WeightsOfBuilt        a table whose vectors are those of a built table has its weights
--   WeightsOfTable        the standard table has its weights
--   BracketStands         bracket_of gives the bracket of two rows
--   ValueStands           value_of gives the value of an expression
--   vector_of_origin      the row of an origin, as a vector over the symbols
--   OriginRowsStand       row_of_origin gives the row of an origin of the list
--   OriginsAreSources     which is a source row
--   SourcesAreOrigins     each source row is that of an origin of the list
use Rattle.std.specs.Prelude.{ℕ, ◌≡◌, ◌-◌, List, length, Ok, Contains}
use Rattle.math_fields.specs.Field.{Field}
use Rattle.math_linear.specs.Vector.{Vector, vzero}
use Rattle.fpl_numbers.specs.declared.number.Num.{Num}
use Rattle.fpl_numbers.specs.Kinds.{field_of}
use Rattle.math_algebra.specs.Tree.{Tree, Presentation as Abstract}
use Rattle.math_algebra.specs.Table.{Table, bracket, val, ObeysLaw}
use Rattle.math_algebra.specs.Symbols.{pair_number}
use Rattle.math_algebra.specs.SourceRows.{relation_row, jacobi_row, cube_row, IsSource}
use Rattle.math_algebra.specs.Built.{Built}
use Rattle.fpl_model.specs.declared.presentation.Presentation.{Presentation}
use Rattle.fpl_model.specs.Meaning.{in_field, generators_in, presentation_in}
use Rattle.fpl_model.specs.Sound.{IsWithin, IsSound}
use Rattle.fpl_log.specs.declared.step.Origin.{Origin}
use Rattle.fpl_log.specs.declared.step.Origin.TheVariants.{Relation, Jacobi, Cube, Row}
use Rattle.fpl_rows.specs.Meaning.{vector_in}
use Rattle.fpl_table.specs.Plain.{PlainTable, table_in, symbols_in}
use Rattle.fpl_table.specs.Shape.{HasShape}
use Rattle.fpl_table.specs.Value.{bracket_of, value_of}
use Rattle.fpl_table.specs.Standard.{IsTableOf}
use Rattle.fpl_rewrite.specs.Origins.{origins_of}
use Rattle.fpl_rewrite.specs.Rows.{row_of_origin}
use Rattle.plain_sources.specs.Premises.{IsRowIn, HasRows, HasWeights, IsTableFor}
use Rattle.plain_sources.specs.RowLaws.{Stands}

abbrev pub RowsOfShape : PlainTable → Type 0
RowsOfShape T = HasShape T → HasRows T

abbrev pub WeightsOfLaw : Presentation → Type 0
WeightsOfLaw p =
    (T : PlainTable) → HasShape T → T.kind ≡ p.field → T.generators ≡ generators_in p →
    ObeysLaw (field_of p.field) (presentation_in p) (table_in p.field T) → HasWeights T

abbrev pub WeightsOfBuilt : Presentation → Type 0
WeightsOfBuilt p =
    IsSound p → (T : PlainTable) → T.kind ≡ p.field → T.generators ≡ generators_in p → Built (field_of p.field) (presentation_in p)
    (table_in p.field T) → HasWeights T

abbrev pub WeightsOfTable : Presentation → Type 0
WeightsOfTable p = IsSound p → (d : ℕ) (T : PlainTable) → IsTableOf p d T → HasWeights T

abbrev pub BracketStands : Presentation → Type 0
BracketStands p =
    IsSound p → (T : PlainTable) → IsTableFor p T → (x y row : List Num) → IsRowIn T x → IsRowIn T y → bracket_of T x y ≡ Ok row →
    Stands p.field (length T.basis) (bracket (field_of p.field) (table_in p.field T) (vector_in p.field x) (vector_in p.field y)) row

abbrev pub ValueStands : Presentation → Type 0
ValueStands p =
    IsSound p → (T : PlainTable) → IsTableFor p T → (e : Tree Num) → IsWithin p.field (length p.generators) e → (row : List Num) → value_of T e ≡ Ok row →
    Stands p.field (length T.basis) (val (field_of p.field) (table_in p.field T) (in_field p.field e)) row

abbrev pub vector_of_origin : (K : Field) → Abstract K.Carrier → Table K → Origin → Vector K
vector_of_origin K P T (Relation r) = relation_row K P T (r - 1)
vector_of_origin K P T (Jacobi i j k) = jacobi_row K T (pair_number P T) (i - 1) (j - 1) (k - 1)
vector_of_origin K P T (Cube i) = cube_row K P T (i - 1)
vector_of_origin K P T (Row n) = vzero K

abbrev pub OriginRowsStand : Presentation → Type 0
OriginRowsStand p =
    IsSound p → (T : PlainTable) → IsTableFor p T → (o : Origin) → Contains (origins_of T p) o → (row : List Num) → row_of_origin T p o ≡ Ok row →
    Stands p.field (length (symbols_in T)) (vector_of_origin (field_of p.field) (presentation_in p) (table_in p.field T) o) row

abbrev pub OriginsAreSources : Presentation → Type 0
OriginsAreSources p =
    IsSound p → (T : PlainTable) → IsTableFor p T → (o : Origin) → Contains (origins_of T p) o →
    IsSource (field_of p.field) (presentation_in p) (table_in p.field T) (vector_of_origin (field_of p.field) (presentation_in p) (table_in p.field T) o)

abbrev pub SourcesAreOrigins : Presentation → Type 0
SourcesAreOrigins p =
    IsSound p → (T : PlainTable) → IsTableFor p T → (v : Vector (field_of p.field)) → IsSource (field_of p.field) (presentation_in p) (table_in p.field T) v →
    (o : Origin) × Contains (origins_of T p) o × (vector_of_origin (field_of p.field) (presentation_in p) (table_in p.field T) o ≡ v)
