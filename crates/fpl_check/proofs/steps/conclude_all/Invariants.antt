use Rattle.std.proofs.Common.{◌≡◌, ◌≤◌, drop, length, []}
use Rattle.fpl_rows.specs.Meaning.{AreRows}
use Rattle.fpl_table.specs.Plain.{symbols_in}
use Rattle.fpl_rewrite.specs.Filling.{empty_for}
use Rattle.fpl_check.specs.Steps.{conclusions_from}
use Rattle.fpl_check.proofs.steps.conclude_all.Given as goal

abbrev pub invariant-loop-i : goal.invariant-loop-i
invariant-loop-i g l = record {
  empty : l.work ≡ empty_for l.table;
  rows : AreRows l.table.kind (length (symbols_in l.table)) l.earlier;
  most : l.i ≤ length l.steps;
  whole : length l.earlier ≡ l.i;
  done : conclusions_from l.table l.p l.steps [] l.steps ≡ conclusions_from l.table l.p l.steps l.earlier (drop l.i l.steps);
}
