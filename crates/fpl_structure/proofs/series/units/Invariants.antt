use Rattle.std.proofs.Common.{◌≡◌, length}
use Rattle.fpl_rows.specs.Meaning.{AreRows}
use Rattle.plain_structure.specs.Plain.{units_to}
use Rattle.fpl_structure.proofs.series.units.Given as goal

abbrev pub invariant-loop-i : goal.invariant-loop-i
invariant-loop-i g l = record {
  made : l.rows ≡ units_to (length l.table.basis) l.i;
  rows : AreRows l.table.kind (length l.table.basis) l.rows;
}
