use Rattle.std.proofs.Common.{◌≤◌, ◌<◌, length}
use Rattle.fpl_envelope.specs.Counts.{heads_in}
use Rattle.fpl_envelope.proofs.counts.Counts.letter.Given as goal

abbrev pub invariant-loop-at : goal.invariant-loop-at
invariant-loop-at g l = record { some : 1 ≤ l.i; most : l.i ≤ length l.table.basis; high : l.at.number < heads_in l.table l.at.weight l.i }

abbrev pub decreases-loop-at : goal.decreases-loop-at
decreases-loop-at g l = l.i
