-- What a table in plain numbers must be for its plain run to stand for the mathematics.
--
--   IsRowIn T row                 elements of the table's field, at most one for each basis element
--   HasRows T                     each image, and each entry within the table's weight, is such a row
--   HasWeights T                  basis elements weigh at least 1 and at most the table's weight; each image has its generator's weight, and each
--                                 product the sum of its factors'
--   IsTableFor p T                a table of the presentation's field and generators that has both
--   IsFor kind K value n v row    a row of n elements of the kind that stands for the vector v, where value reads numbers into K
use Rattle.std.specs.Prelude.{ℕ, ◌≡◌, ◌<◌, ◌≤◌, ◌+◌, List, length}
use Rattle.math_fields.specs.Field.{Field}
use Rattle.math_linear.specs.Vector.{Vector}
use Rattle.math_linear.specs.Lists.{vector_of}
use Rattle.fpl_numbers.specs.declared.number.Num.{Num}
use Rattle.fpl_numbers.specs.declared.number.Kind.{Kind}
use Rattle.fpl_numbers.specs.Kinds.{field_of}
use Rattle.fpl_scalar.specs.Vectors.{AreElements}
use Rattle.math_algebra.specs.Tree.{generator}
use Rattle.math_algebra.specs.Table.{IsOf, IsRegular, product}
use Rattle.fpl_model.specs.declared.presentation.Presentation.{Presentation}
use Rattle.fpl_model.specs.Meaning.{generators_in}
use Rattle.fpl_rows.specs.Meaning.{vector_in}
use Rattle.fpl_table.specs.Plain.{PlainTable, plain_basis, image_row, entry_row, table_in, shell_in}
use Rattle.fpl_table.specs.Shape.{IsRowUpTo}

abbrev pub IsRowIn : PlainTable → List Num → Type 0
IsRowIn T row = IsRowUpTo T.kind (length T.basis) row

pub record HasRows (T : PlainTable) : Type 0 where
  pub images : (g : ℕ) → g < length T.generators → IsRowIn T (image_row T g)
  pub entries : (i j : ℕ) → i < length T.basis → j < length T.basis → IsRegular (table_in T.kind T) i j →
      (plain_basis T i).weight + (plain_basis T j).weight ≤ T.weight →
      IsRowIn T (entry_row T i j)

pub record HasWeights (T : PlainTable) : Type 0 where
  pub positive : (i : ℕ) → i < length T.basis → 0 < (plain_basis T i).weight
  pub within : (i : ℕ) → i < length T.basis → (plain_basis T i).weight ≤ T.weight
  pub images : (g : ℕ) → g < length T.generators →
      IsOf (field_of T.kind) (table_in T.kind T) (generator (shell_in T.kind T) g).weight (vector_in T.kind (image_row T g))
  pub products : (i j : ℕ) → i < length T.basis → j < length T.basis →
      IsOf (field_of T.kind) (table_in T.kind T) ((plain_basis T i).weight + (plain_basis T j).weight) (product (field_of T.kind) (table_in T.kind T) i j)

pub record IsTableFor (p : Presentation) (T : PlainTable) : Type 0 where
  pub kind : T.kind ≡ p.field
  pub generators : T.generators ≡ generators_in p
  pub rows : HasRows T
  pub weights : HasWeights T

pub record IsFor (kind : Kind) (K : Field) (value : Num → K.Carrier) (n : ℕ) (v : Vector K) (row : List Num) : Type 0 where
  pub elements : AreElements kind row
  pub long : length row ≡ n
  pub vector : vector_of K value row ≡ v
