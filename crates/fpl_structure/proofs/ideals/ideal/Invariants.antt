use Rattle.std.proofs.Common.{◌≡◌, ◌≤◌, ◌+◌, ◌-◌, length}
use Rattle.std.specs.Prelude.{map}
use Rattle.fpl_rows.specs.Meaning.{AreRows}
use Rattle.fpl_model.specs.Meaning.{plain}
use Rattle.plain_structure.specs.Plain.{rounds_from, ideal_of}
use Rattle.fpl_structure.proofs.ideals.ideal.Given as goal

abbrev pub invariant-loop : goal.invariant-loop
invariant-loop g l = record {
  left : ideal_of l.table (map plain l.elements) ≡ rounds_from l.table (length l.table.basis + 1 - l.counter) l.rows;
  rows : AreRows l.table.kind (length l.table.basis) l.rows;
  rises : l.initial.steps ≤ l.steps;
}
