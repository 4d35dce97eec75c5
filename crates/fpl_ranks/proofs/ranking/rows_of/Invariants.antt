use Rattle.std.proofs.Common.{◌≡◌, map, take}
use Rattle.fpl_rows.specs.Meaning.{AreRows}
use Rattle.fpl_ranks.specs.Ranks.{row_of}
use Rattle.fpl_ranks.proofs.ranking.rows_of.Given as goal

abbrev pub invariant-loop-x : goal.invariant-loop-x
invariant-loop-x l = record {
  made : l.rows ≡ map row_of (take l.x-index l.matrices);
  rows : AreRows l.table.kind l.places l.rows;
}
