use Rattle.std.proofs.Common.{◌≡◌, length}
use Rattle.fpl_lanes.specs.Lanes.{AllBelow}
use Rattle.plain_matrices.specs.Plain.{size_of, bracket_row}
use Rattle.fpl_matrices.proofs.bracketing.bracket_row.Given as goal

abbrev pub invariant-loop-k : goal.invariant-loop-k
invariant-loop-k l = record {
  value : l.out.items ≡ bracket_row l.x.prime l.x.even (size_of l.x) l.x.numbers l.turned.numbers l.y.numbers l.r l.k;
  below : AllBelow l.x.prime l.out.items;
  whole : length l.out.items ≡ size_of l.x;
}
