use Rattle.std.proofs.Common.{◌≡◌, ◌<◌, ℕ, true, slice_index_or}
use Rattle.fpl_check.specs.Leads.{is_clear}
use Rattle.fpl_check.proofs.leads.are_clear.Given as goal

abbrev pub invariant-loop-k : goal.invariant-loop-k
invariant-loop-k l = (j : ℕ) → j < l.k → is_clear l.marks l.lead (slice_index_or l.places j 0) ≡ true
