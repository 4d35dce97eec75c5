use Rattle.std.proofs.Common.{◌≡◌, ◌<◌, ◌-◌, ℕ, map, length, get_or, true}
use Rattle.std.specs.Prelude.{All}
use Rattle.fpl_numbers.specs.Numbers.{residue}
use Rattle.fpl_rows.specs.Marking.{IsMarked, IsRest}
use Rattle.fpl_rows.proofs.work.empty.Given as goal

abbrev pub invariant-loop-s : goal.invariant-loop-s
invariant-loop-s g l = record {
  same : length l.sums ≡ length l.initial.sums;
  marked : IsMarked l.marks (map (g.F.Field.summed l.field) l.sums);
  room : All (λ s. g.F.Field.has_room l.field s ≡ true) l.sums;
  before : (t : ℕ) → t < l.s.place → get_or (map (g.F.Field.summed l.field) l.sums) t (residue 0) ≡ residue 0;
  rest : IsRest l.marks l.s.place l.s.rest l.s.end;
}

abbrev pub decreases-loop-s : goal.decreases-loop-s
decreases-loop-s g l = length l.sums - l.s.place
