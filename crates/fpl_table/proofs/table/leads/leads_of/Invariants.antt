use Rattle.std.proofs.Common.{◌≡◌, ◌≤◌, ◌<◌, ℕ, length, get_or, drop}
use Rattle.fpl_table.specs.Leads.{row_by}
use Rattle.fpl_table.specs.Push.{row_with_lead}
use Rattle.fpl_table.proofs.table.leads.leads_of.Given as goal

abbrev pub decreases-loop-k : goal.decreases-loop-k
decreases-loop-k g l = l.k

abbrev pub invariant-loop-k : goal.invariant-loop-k
invariant-loop-k g l = record {
  count : length l.leads.items ≡ l.count;
  within : (s : ℕ) → s < l.count → get_or l.leads.items s 0 ≤ length l.rows;
  rows_are : (s : ℕ) → s < l.count → row_by l.rows (get_or l.leads.items s 0) ≡ row_with_lead (drop l.k l.rows) s;
  far : l.k ≤ length l.rows;
}
