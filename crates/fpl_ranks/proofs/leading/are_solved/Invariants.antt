use Rattle.std.proofs.Common.{ℕ, [], ◌<◌, get_or}
use Rattle.fpl_ranks.specs.Leads.{IsSolvedBy}
use Rattle.fpl_ranks.proofs.leading.are_solved.Given as goal

abbrev pub invariant-loop-k : goal.invariant-loop-k
invariant-loop-k l = (i : ℕ) → i < l.k → IsSolvedBy l.table.kind l.test (get_or l.rows i [])
