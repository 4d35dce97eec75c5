use Rattle.std.proofs.Common.{◌≤◌, ◌-◌, length}
use Rattle.fpl_envelope.specs.Action.{IsSum, Adds, multiple, acted}
use Rattle.fpl_envelope.proofs.Adding.{part}
use Rattle.fpl_envelope.proofs.acting.add_combined.Given as goal

abbrev pub invariant-loop-t : goal.invariant-loop-t
invariant-loop-t g l = record {
  within : l.after ≤ length l.row;
  sum : IsSum l.table l.w l.sum;
  adds : Adds l.table l.w (multiple l.table (g.F.Field.number l.c) (part l.table (λ t f. acted l.table t l.at.weight l.at.number f) l.row l.after))
      l.initial.sum.row l.sum.row;
}

abbrev pub decreases-loop-t : goal.decreases-loop-t
decreases-loop-t g l = length l.row - l.after
