use Rattle.std.proofs.Common.{◌≡◌, ◌≤◌, ◌-◌, ◌++◌, length}
use Rattle.std.specs.Prelude.{All}
use Rattle.fpl_numbers.specs.Results.{map_ok}
use Rattle.fpl_rows.specs.Meaning.{AreRows}
use Rattle.plain_structure.specs.Plain.{series_from, lower_central_of}
use Rattle.fpl_structure.proofs.series.lower_central.Given as goal

abbrev pub invariant-loop : goal.invariant-loop
invariant-loop g l = record {
  left : lower_central_of l.table ≡ map_ok (λ more. l.terms ++ more) (series_from l.table (l.table.weight - l.counter) l.rows);
  rows : AreRows l.table.kind (length l.table.basis) l.rows;
  terms : All (AreRows l.table.kind (length l.table.basis)) l.terms;
  rises : l.initial.steps ≤ l.steps;
}
