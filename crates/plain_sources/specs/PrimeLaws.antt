-- Over a prime every operation fits, so nothing in the plain run is refused.
--
--   DoesFit r       r is a value, and no operation that does not fit
--   AddAtFits       a number added at a place
--   AddRowFits      a row added
--   AxpyFits        a multiple of a row added
--   ScaleFits       a multiple of a row
--   BracketFits     the bracket of two rows
--   ValueFits       the value of an expression
--   OriginRowFits   the row of an origin
use Rattle.std.specs.Prelude.{ℕ, ◌≡◌, List}
use Rattle.fpl_numbers.specs.declared.number.Num.{Num}
use Rattle.fpl_numbers.specs.declared.number.Kind.TheVariants.{Prime}
pub use Rattle.plain_elimination.specs.Fitting.{DoesFit}
use Rattle.fpl_scalar.specs.Vectors.{axpy_of, scale_of}
use Rattle.math_algebra.specs.Tree.{Tree}
use Rattle.fpl_model.specs.declared.presentation.Presentation.{Presentation}
use Rattle.fpl_log.specs.declared.step.Origin.{Origin}
use Rattle.fpl_table.specs.Plain.{PlainTable}
use Rattle.fpl_rows.specs.Positions.{added_at}
use Rattle.fpl_table.specs.Value.{add_row, bracket_of, value_of}
use Rattle.fpl_rewrite.specs.Rows.{row_of_origin}

abbrev pub AddAtFits : ℕ → Type 0
AddAtFits p = (row : List Num) (s : ℕ) (c : Num) → DoesFit (added_at (Prime p) row s c)

abbrev pub AddRowFits : ℕ → Type 0
AddRowFits p = (row x : List Num) → DoesFit (add_row (Prime p) row x)

abbrev pub AxpyFits : ℕ → Type 0
AxpyFits p = (row : List Num) (c : Num) (x : List Num) → DoesFit (axpy_of (Prime p) row c x)

abbrev pub ScaleFits : ℕ → Type 0
ScaleFits p = (c : Num) (row : List Num) → DoesFit (scale_of (Prime p) c row)

abbrev pub BracketFits : ℕ → Type 0
BracketFits p = (T : PlainTable) → T.kind ≡ Prime p → (x y : List Num) → DoesFit (bracket_of T x y)

abbrev pub ValueFits : ℕ → Type 0
ValueFits p = (T : PlainTable) → T.kind ≡ Prime p → (e : Tree Num) → DoesFit (value_of T e)

abbrev pub OriginRowFits : ℕ → Type 0
OriginRowFits p = (T : PlainTable) → T.kind ≡ Prime p → (q : Presentation) (o : Origin) → DoesFit (row_of_origin T q o)
