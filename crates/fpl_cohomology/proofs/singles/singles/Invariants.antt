use Rattle.std.proofs.Common.{◌≡◌, ◌≤◌, length}
use Rattle.math_linear.specs.Lists.{joined}
use Rattle.plain_cohomology.specs.Plain.{single_cell}
use Rattle.fpl_cohomology.proofs.singles.singles.Given as goal

abbrev pub invariant-loop-i : goal.invariant-loop-i
invariant-loop-i g l = record {
  within : l.i ≤ length l.table.basis;
  value : l.list.items ≡ joined l.i (single_cell l.table l.w);
}
