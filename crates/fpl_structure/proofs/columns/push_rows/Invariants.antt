use Rattle.std.proofs.Common.{◌≡◌, ◌++◌, ◌-◌, Ok, length}
use Rattle.std.specs.Prelude.{map}
use Rattle.math_linear.specs.Lists.{joined}
use Rattle.fpl_rows.specs.Meaning.{AreRows}
use Rattle.plain_structure.specs.Plain.{if_any, centre_row}
use Rattle.fpl_structure.proofs.columns.push_rows.Given as goal

abbrev pub invariant-loop-t : goal.invariant-loop-t
invariant-loop-t g l = record {
  made : map Ok l.rows ≡ map Ok l.initial.rows ++ joined l.t (λ t. if_any (centre_row l.table (l.j - 1) t));
  rows : AreRows l.table.kind (length l.table.basis) l.rows;
}
