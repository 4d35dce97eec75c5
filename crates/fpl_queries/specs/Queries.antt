-- Queries: pairs of expressions of which it is asked whether they are equal.
--
--   weight_in p q        the weight of a query, its two sides taken as one sum
--   is_past d w          a weight as written is past d
--   is_beyond p T q      the query has a weight, and it is past the table's
--   value_in p T e       the value of an expression in the table
--   IsBeyond p T q       its weight is past the table's
--   HaveOneValue p T q   both sides have one value in the table
--   AreEqual p q         they are derivably equal
use Rattle.std.specs.Prelude.{ℕ, ◌≡◌, ◌<◌, Bool, false, nat_lt}
use Rattle.fpl_numbers.specs.Kinds.{field_of}
use Rattle.math_linear.specs.Vector.{Vector}
use Rattle.math_algebra.specs.Degrees.{Degree, any, exact, mixed, weight_of_both}
use Rattle.math_algebra.specs.Derives.{Derives}
use Rattle.math_algebra.specs.Table.{val}
use Rattle.fpl_model.specs.declared.expr.Expr.{Expr}
use Rattle.fpl_model.specs.declared.presentation.Presentation.{Presentation}
use Rattle.fpl_model.specs.declared.presentation.Equation.{Equation}
use Rattle.fpl_model.specs.Meaning.{tree_in, presentation_in}
use Rattle.fpl_table.specs.Plain.{PlainTable, table_in}

abbrev pub weight_in : Presentation → Equation → Degree ℕ
weight_in p q = weight_of_both (presentation_in p) (tree_in p.field q.left) (tree_in p.field q.right)

abbrev pub is_past : ℕ → Degree ℕ → Bool
is_past d any = false
is_past d (exact w) = nat_lt d w
is_past d mixed = false

abbrev pub is_beyond : Presentation → PlainTable → Equation → Bool
is_beyond p T q = is_past T.weight (weight_in p q)

abbrev pub value_in : (p : Presentation) → PlainTable → Expr → Vector (field_of p.field)
value_in p T e = val (field_of p.field) (table_in p.field T) (tree_in p.field e)

abbrev pub IsBeyond : Presentation → PlainTable → Equation → Type 0
IsBeyond p T q = (w : ℕ) × (weight_in p q ≡ exact w) × (T.weight < w)

abbrev pub HaveOneValue : Presentation → PlainTable → Equation → Type 0
HaveOneValue p T q = value_in p T q.left ≡ value_in p T q.right

abbrev pub AreEqual : Presentation → Equation → Type 0
AreEqual p q = Derives (field_of p.field) (presentation_in p) (tree_in p.field q.left) (tree_in p.field q.right)
