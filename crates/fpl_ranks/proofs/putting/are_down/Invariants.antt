use Rattle.std.proofs.Common.{◌≡◌, ℕ, ◌<◌, get_or, false}
use Rattle.fpl_ranks.proofs.putting.are_down.Given as goal

abbrev pub invariant-loop-flag : goal.invariant-loop-flag
invariant-loop-flag l = (s : ℕ) → s < l.flag-index → get_or l.flags s false ≡ false
