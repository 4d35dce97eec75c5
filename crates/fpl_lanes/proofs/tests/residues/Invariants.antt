use Rattle.std.proofs.Common.{◌≡◌, vec_len}
use Rattle.fpl_lanes.specs.Lanes.{AllBelow}
use Rattle.fpl_lanes.proofs.tests.residues.Given as goal

abbrev pub invariant-loop-k : goal.invariant-loop-k
invariant-loop-k l = record {
  below : AllBelow 65521 l.row.items;
  length : vec_len l.row ≡ l.k;
}
