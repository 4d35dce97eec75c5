use Rattle.std.proofs.Common.{◌≤◌, ◌+◌, ◌-◌, length}
use Rattle.fpl_table.specs.Plain.{plain_basis}
use Rattle.plain_envelope.specs.Straight.{led}
use Rattle.fpl_envelope.specs.Counts.{word_in, skipped_in}
use Rattle.fpl_envelope.specs.Action.{IsSum, Adds, multiple, field_in, math_in}
use Rattle.fpl_envelope.proofs.Adding.{part}
use Rattle.fpl_envelope.proofs.acting.add_led.Given as goal

abbrev pub invariant-loop-s : goal.invariant-loop-s
invariant-loop-s g l = record {
  from : skipped_in l.table l.w (l.j - 1) ≤ l.after;
  within : l.after ≤ length l.row;
  sum : IsSum l.table ((plain_basis l.table (l.j - 1)).weight + l.w) l.sum;
  adds : Adds l.table ((plain_basis l.table (l.j - 1)).weight + l.w)
      (multiple l.table (g.F.Field.number l.c)
      (part l.table (λ t f. led (field_in l.table) (math_in l.table) (l.j - 1) f (word_in l.table l.w t)) l.row l.after)) l.initial.sum.row l.sum.row;
}

abbrev pub decreases-loop-s : goal.decreases-loop-s
decreases-loop-s g l = length l.row - l.after
