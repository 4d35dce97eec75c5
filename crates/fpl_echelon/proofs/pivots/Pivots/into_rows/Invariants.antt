use Rattle.std.proofs.Common.{◌≡◌, ◌++◌}
use Rattle.plain_elimination.specs.Plain.{rows_of}
use Rattle.fpl_echelon.proofs.pivots.Pivots.into_rows.Given as goal

abbrev pub invariant-loop-pivot : goal.invariant-loop-pivot
invariant-loop-pivot g l = record {
  made : l.rows ≡ rows_of l.yielded;
  parts : l.self-inside.rows.items ≡ l.yielded ++ l.pivot-iterator.rest.items;
}
