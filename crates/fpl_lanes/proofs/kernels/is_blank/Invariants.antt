use Rattle.std.proofs.Common.{ℕ, ◌≡◌, ◌<◌, ◌≤◌, get_or}
use Rattle.fpl_lanes.proofs.kernels.is_blank.Given as goal

abbrev pub invariant-loop-x : goal.invariant-loop-x
invariant-loop-x l = record {
  above : (k : ℕ) → k < l.x-index → get_or l.block k 0 ≤ l.bits;
  blank : ((k : ℕ) → k < l.x-index → get_or l.block k 0 ≡ 0) → l.bits ≡ 0;
}
