use Rattle.std.proofs.Common.{◌≡◌, ◌+◌, length}
use Rattle.fpl_rewrite.specs.Origins.{origins_of}
use Rattle.fpl_rewrite.specs.Cursor.{to_come}
use Rattle.fpl_check.proofs.origins.count_origins.Given as goal

abbrev pub invariant-loop-found : goal.invariant-loop-found
invariant-loop-found g l = record {
  weight : l.origins.weight ≡ l.table.weight + 1;
  count : l.found + length (to_come l.table l.p l.origins) ≡ length (origins_of l.table l.p);
}
