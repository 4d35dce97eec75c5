-- What the rows of code stand for: combinations of the words of one weight, with the number of word k at position k. Basis elements count from 0 here.
--
--   IsOfResidues kind          the kind of the residues modulo an accepted prime
--   IsEnveloped T              the table is over a prime, and obeys the law of a presentation
--   number_in T c              the number that c stands for
--   row_value T w row          what a row over the words of weight w gives for a form
--   acted T i w k              the action of b_i on word k of weight w, as a value
--   multiple T c x             c times a value
--   passed T i j w k           what b_i gives on that word, with b_j in front of each of its words before which it may stand
--   bracketed T i j w k        the action of [b_i, b_j] on that word
--   StandsFor T w x row        the row is over the words of weight w, and gives each form what the value x gives
--   IsSum T w sum              a row in work over the words of weight w
--   Adds T w x before after    what a row gives grew by the value x
use Rattle.std.specs.Prelude.{ℕ, ◌≡◌, List, length}
use Rattle.math_fields.specs.Field.{Field}
use Rattle.math_linear.specs.Kernel.{product_sum}
use Rattle.fpl_numbers.specs.declared.number.Num.{Num}
use Rattle.fpl_numbers.specs.declared.number.Kind.{Kind}
use Rattle.fpl_numbers.specs.declared.number.Kind.TheVariants.{Prime}
use Rattle.fpl_numbers.specs.Numbers.{IsField}
use Rattle.fpl_numbers.specs.Kinds.{field_of, number_of, Number}
use Rattle.fpl_rows.specs.Meaning.{vector_in, IsRowOf}
use Rattle.fpl_rows.specs.Working.{Working}
use Rattle.math_algebra.specs.Tree.{Presentation}
use Rattle.math_algebra.specs.Table.{Table, ObeysLaw, product}
use Rattle.math_words.specs.Action.{Form, action, acts}
use Rattle.math_words.specs.Envelope.{Value}
use Rattle.plain_envelope.specs.Straight.{led}
use Rattle.fpl_table.specs.Plain.{PlainTable, table_in}
use Rattle.fpl_envelope.specs.Counts.{words_in, word_in}

pub record IsOfResidues (kind : Kind) : Type 0 where
  pub prime : ℕ
  pub is : kind ≡ Prime prime
  pub accepted : IsField kind

pub record IsEnveloped (T : PlainTable) : Type 0 where
  pub residues : IsOfResidues T.kind
  pub presentation : Presentation (Number T.kind)
  pub law : ObeysLaw (field_of T.kind) presentation (table_in T.kind T)

abbrev pub field_in : PlainTable → Field
field_in T = field_of T.kind

abbrev pub math_in : (T : PlainTable) → Table (field_in T)
math_in T = table_in T.kind T

abbrev pub number_in : (T : PlainTable) → Num → Number T.kind
number_in T c = number_of T.kind c

abbrev pub row_value : (T : PlainTable) → ℕ → List Num → Value (field_in T)
row_value T w row f = product_sum (field_in T) (length (words_in T w)) (λ k. f (word_in T w k)) (vector_in T.kind row)

abbrev pub acted : (T : PlainTable) → ℕ → ℕ → ℕ → Value (field_in T)
acted T i w k f = action (field_in T) (math_in T) i (word_in T w k) f

abbrev pub multiple : (T : PlainTable) → Num → Value (field_in T) → Value (field_in T)
multiple T c x f = (field_in T).times (number_in T c) (x f)

abbrev pub passed : (T : PlainTable) → (i j w k : ℕ) → Value (field_in T)
passed T i j w k f = acted T i w k (led (field_in T) (math_in T) j f)

abbrev pub bracketed : (T : PlainTable) → (i j w k : ℕ) → Value (field_in T)
bracketed T i j w k f = acts (field_in T) (math_in T) (product (field_in T) (math_in T) i j) (word_in T w k) f

pub record StandsFor (T : PlainTable) (w : ℕ) (x : Value (field_in T)) (row : List Num) : Type 0 where
  pub row_of : IsRowOf T.kind (length (words_in T w)) row
  pub value : (f : Form (field_in T)) → row_value T w row f ≡ x f

pub record IsSum (T : PlainTable) (w : ℕ) (sum : Working) : Type 0 where
  pub kind : sum.kind ≡ T.kind
  pub row_of : IsRowOf T.kind (length (words_in T w)) sum.row

abbrev pub Adds : (T : PlainTable) → ℕ → Value (field_in T) → (before after : List Num) → Type 0
Adds T w x before after = (f : Form (field_in T)) → row_value T w after f ≡ (field_in T).plus (row_value T w before f) (x f)
