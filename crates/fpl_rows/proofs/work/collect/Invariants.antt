use Rattle.std.proofs.Common.{◌-◌, length}
use Rattle.fpl_rows.specs.Marking.{IsRest}
use Rattle.fpl_rows.proofs.Gatherings.{Holds}
use Rattle.fpl_rows.proofs.work.collect.Given as goal

abbrev pub invariant-loop-s : goal.invariant-loop-s
invariant-loop-s g l = record {
  held : Holds (g.F.Field.kind_of l.field) (g.F.Field.summed l.field) g.F.Field.number l.sums l.s.place l.places.items l.numbers.items;
  rest : IsRest l.marks l.s.place l.s.rest l.s.end;
}

abbrev pub decreases-loop-s : goal.decreases-loop-s
decreases-loop-s g l = length l.sums - l.s.place
