use Rattle.std.proofs.Common.{◌≡◌, Ok, length}
use Rattle.std.specs.Prelude.{map}
use Rattle.math_linear.specs.Lists.{joined}
use Rattle.fpl_rows.specs.Meaning.{AreRows}
use Rattle.plain_structure.specs.Plain.{centre_rows_at}
use Rattle.fpl_structure.proofs.columns.centre_rows.Given as goal

abbrev pub invariant-loop-j : goal.invariant-loop-j
invariant-loop-j g l = record {
  made : map Ok l.rows ≡ joined l.j (centre_rows_at l.table);
  rows : AreRows l.table.kind (length l.table.basis) l.rows;
}
