use Rattle.std.proofs.Common.{◌≡◌, ◌≤◌, suc, length}
use Rattle.std.specs.Prelude.{None}
use Rattle.fpl_table.specs.Plain.{table_in}
use Rattle.plain_envelope.specs.Listing.{count_through, word_limit}
use Rattle.fpl_envelope.specs.Counts.{AreCounts}
use Rattle.fpl_envelope.proofs.limit.word_count.Given as goal

abbrev pub invariant-loop-below : goal.invariant-loop-below
invariant-loop-below g l = record {
  counts : AreCounts l.table l.counts;
  depth : length l.counts ≡ suc l.below;
  sum : l.sum ≡ count_through (table_in l.table.kind l.table) l.below;
  most : l.sum ≤ l.entries;
  none : word_limit (table_in l.table.kind l.table) l.entries l.below ≡ None;
}
