use Rattle.std.proofs.Common.{◌≡◌}
use Rattle.std.specs.Prelude.{All}
use Rattle.fpl_print.specs.GapText.{IsWithin, generators_within}
use Rattle.fpl_print.proofs.gap.generators_within.Given as goal

abbrev pub invariant-loop-g : goal.invariant-loop-g
invariant-loop-g g l = record {
  value : l.within.items ≡ generators_within l.table l.g;
  all : All (IsWithin l.table) l.within.items;
}
