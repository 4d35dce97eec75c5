use Rattle.std.proofs.Common.{◌≡◌, ◌<◌, ℕ, length, get_or}
use Rattle.fpl_table.specs.Push.{free_in}
use Rattle.fpl_table.proofs.table.leads.ClosedRows.of.Given as goal

abbrev pub invariant-loop-s : goal.invariant-loop-s
invariant-loop-s g l = record {
  free : l.free.items ≡ free_in l.rows l.s;
  count : length l.ranks.items ≡ l.s;
  ranks : (t : ℕ) → t < l.s → get_or l.ranks.items t 0 ≡ length (free_in l.rows t);
}
