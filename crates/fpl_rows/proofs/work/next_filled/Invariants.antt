use Rattle.std.proofs.Common.{◌≡◌, ◌≤◌, ◌<◌, ◌-◌, ℕ, length, map, slice_index_or}
use Rattle.fpl_numbers.specs.Numbers.{residue}
use Rattle.fpl_rows.specs.Marking.{IsRest}
use Rattle.fpl_rows.proofs.work.next_filled.Given as goal

abbrev pub invariant-loop-s : goal.invariant-loop-s
invariant-loop-s g l = record {
  at_least : l.fn.from.place ≤ l.s.place;
  at_most : l.s.place ≤ length l.sums;
  none : (k : ℕ) → l.fn.from.place ≤ k → k < l.s.place → slice_index_or (map (g.F.Field.summed l.field) l.sums) k (residue 0) ≡ residue 0;
  rest : IsRest l.marks l.s.place l.s.rest l.s.end;
}

abbrev pub decreases-loop-s : goal.decreases-loop-s
decreases-loop-s g l = length l.sums - l.s.place
