use Rattle.std.proofs.Common.{◌≡◌, map, drop, length}
use Rattle.fpl_scalar.specs.Vectors.{axpy_of}
use Rattle.fpl_rows.specs.Packing.{spread}
use Rattle.fpl_rows.specs.Working.{IsWorking}
use Rattle.fpl_rows.proofs.sums.gain_at.Given as goal

-- the work left: to add the numbers from place k of the list on
abbrev pub invariant-loop-k : goal.invariant-loop-k
invariant-loop-k g l = record {
  same : length l.sums ≡ length l.initial.sums;
  working : IsWorking (g.F.Field.kind_of l.field) (g.F.Field.has_room l.field) (g.F.Field.summed l.field) l.marks l.sums;
  left : axpy_of (g.F.Field.kind_of l.field) (map (g.F.Field.summed l.field) l.initial.sums) (g.F.Field.number l.c)
      (spread (length l.initial.sums) l.places (map g.F.Field.number l.numbers))
      ≡ axpy_of (g.F.Field.kind_of l.field) (map (g.F.Field.summed l.field) l.sums) (g.F.Field.number l.c)
      (spread (length l.initial.sums) (drop l.k l.places) (drop l.k (map g.F.Field.number l.numbers)));
}
