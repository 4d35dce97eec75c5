use Rattle.std.proofs.Common.{◌≤◌, ◌-◌, length}
use Rattle.fpl_numbers.specs.Numbers.{residue}
use Rattle.fpl_envelope.specs.Action.{IsSum, Adds, multiple, acted}
use Rattle.fpl_envelope.proofs.Adding.{part}
use Rattle.fpl_envelope.proofs.straightening.add_each.Given as goal

abbrev pub invariant-loop-s : goal.invariant-loop-s
invariant-loop-s g l = record {
  within : l.after ≤ length l.row;
  sum : IsSum l.table l.w l.sum;
  adds : Adds l.table l.w (multiple l.table (residue 1) (part l.table (λ t f. acted l.table (l.i - 1) l.weight t f) l.row l.after))
      l.initial.sum.row l.sum.row;
}

abbrev pub decreases-loop-s : goal.decreases-loop-s
decreases-loop-s g l = length l.row - l.after
