use Rattle.std.proofs.Common.{◌≡◌, ◌≤◌, Ok}
use Rattle.fpl_ranks.specs.Ranks.{ranks_to}
use Rattle.fpl_ranks.proofs.ranking.ranks.Given as goal

abbrev pub invariant-loop-w : goal.invariant-loop-w
invariant-loop-w g l = record {
  made : ranks_to l.a l.table l.w ≡ Ok l.ranks.items;
  rises : l.initial.steps ≤ l.steps;
}
