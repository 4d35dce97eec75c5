use Rattle.std.proofs.Common.{◌≡◌, ◌≤◌, ◌++◌, map, length}
use Rattle.math_linear.specs.Lists.{joined}
use Rattle.plain_cohomology.specs.Plain.{third_cell}
use Rattle.fpl_cohomology.specs.Forms.{triple_in}
use Rattle.fpl_cohomology.proofs.triples.push_thirds.Given as goal

abbrev pub invariant-loop-third : goal.invariant-loop-third
invariant-loop-third g l = record {
  within : l.third ≤ length l.table.basis;
  value : map triple_in l.triples.items ≡ map triple_in l.initial.triples.items ++ joined l.third (third_cell l.table l.w l.first l.second);
}
