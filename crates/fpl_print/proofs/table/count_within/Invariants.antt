use Rattle.std.proofs.Common.{◌≡◌, ◌≤◌, take}
use Rattle.std.specs.Prelude.{count_by, nat_le}
use Rattle.fpl_print.proofs.table.count_within.Given as goal

abbrev pub invariant-loop-g : goal.invariant-loop-g
invariant-loop-g l = record {
  count : l.count ≡ count_by (λ g. nat_le g.weight l.weight) (take l.g-index l.g-items);
  most : l.count ≤ l.g-index;
  same : l.g-items ≡ l.generators;
}
