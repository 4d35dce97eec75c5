use Rattle.std.proofs.Common.{◌≡◌, suc, length}
use Rattle.fpl_envelope.specs.Counts.{AreCounts}
use Rattle.fpl_envelope.proofs.listing.counts_through.Given as goal

abbrev pub invariant-loop-below : goal.invariant-loop-below
invariant-loop-below g l = record { counts : AreCounts l.table l.counts; depth : length l.counts ≡ suc l.below }
