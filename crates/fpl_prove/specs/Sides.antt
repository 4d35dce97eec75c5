-- The row of a line: its left side's less its right side's.
--
--   sides_row p T e f   the row of e less that of f
use Rattle.math_linear.specs.Vector.{Vector, vplus, scale}
use Rattle.fpl_numbers.specs.Kinds.{field_of}
use Rattle.fpl_model.specs.declared.expr.Expr.{Expr}
use Rattle.fpl_model.specs.declared.presentation.Presentation.{Presentation}
use Rattle.fpl_table.specs.Plain.{PlainTable}
use Rattle.fpl_table_facts.specs.Rows.{expr_row}

abbrev pub sides_row : (p : Presentation) → PlainTable → Expr → Expr → Vector (field_of p.field)
sides_row p T e f =
    vplus (field_of p.field) (expr_row p T e) (scale (field_of p.field) ((field_of p.field).minus (field_of p.field).unit) (expr_row p T f))
