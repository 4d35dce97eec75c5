use Rattle.std.proofs.Common.{◌≡◌, ◌<◌, ◌+◌, ℕ, None, slice_index_or}
use Rattle.std.specs.List.{find}
use Rattle.plain_elimination.specs.Plain.{stands_at}
use Rattle.fpl_echelon.proofs.close.meets_none_at.Given as goal

abbrev pub invariant-loop-k : goal.invariant-loop-k
invariant-loop-k g l = (j : ℕ) → j < l.k → slice_index_or l.places j 0 < l.s → find (stands_at (slice_index_or l.places j 0 + 1)) l.closed ≡ None
