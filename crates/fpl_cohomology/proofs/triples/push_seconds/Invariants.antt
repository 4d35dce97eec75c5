use Rattle.std.proofs.Common.{◌≡◌, ◌≤◌, ◌++◌, map, length}
use Rattle.math_linear.specs.Lists.{joined}
use Rattle.plain_cohomology.specs.Plain.{second_cell}
use Rattle.fpl_cohomology.specs.Forms.{triple_in}
use Rattle.fpl_cohomology.proofs.triples.push_seconds.Given as goal

abbrev pub invariant-loop-second : goal.invariant-loop-second
invariant-loop-second g l = record {
  within : l.second ≤ length l.table.basis;
  value : map triple_in l.triples.items ≡ map triple_in l.initial.triples.items ++ joined l.second (second_cell l.table l.w l.first);
}
