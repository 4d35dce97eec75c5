use Rattle.std.proofs.Common.{◌≤◌, ◌-◌, length}
use Rattle.fpl_rows.specs.Marking.{IsRest}
use Rattle.fpl_rows.proofs.work.count_filled.Given as goal

abbrev pub invariant-loop-s : goal.invariant-loop-s
invariant-loop-s g l = record {
  few : l.count ≤ l.s.place;
  at_most : l.s.place ≤ length l.sums;
  rest : IsRest l.marks l.s.place l.s.rest l.s.end;
}

abbrev pub decreases-loop-s : goal.decreases-loop-s
decreases-loop-s g l = length l.sums - l.s.place
