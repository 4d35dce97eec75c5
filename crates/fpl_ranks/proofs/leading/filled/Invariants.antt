use Rattle.std.proofs.Common.{◌≡◌, ℕ, ◌<◌, length, get_or, false}
use Rattle.fpl_ranks.specs.Leads.{NeverLeads}
use Rattle.fpl_ranks.proofs.leading.filled.Given as goal

abbrev pub invariant-loop-s : goal.invariant-loop-s
invariant-loop-s l = record {
  never : (s : ℕ) → s < l.s → get_or l.flags.items s false ≡ false → NeverLeads l.table.kind l.rows s;
  count : length l.flags.items ≡ l.s;
}
