use Rattle.std.proofs.Common.{ℕ, [], ◌<◌, get_or}
use Rattle.fpl_ranks.specs.Leads.{IsBlankAt}
use Rattle.fpl_ranks.proofs.leading.are_blank.Given as goal

abbrev pub invariant-loop-k : goal.invariant-loop-k
invariant-loop-k l = (i : ℕ) → i < l.k → IsBlankAt l.s (get_or l.rows i [])
