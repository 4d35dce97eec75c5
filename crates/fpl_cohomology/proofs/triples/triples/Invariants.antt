use Rattle.std.proofs.Common.{◌≡◌, map}
use Rattle.math_linear.specs.Lists.{joined}
use Rattle.plain_cohomology.specs.Plain.{first_cell}
use Rattle.fpl_cohomology.specs.Forms.{triple_in}
use Rattle.fpl_cohomology.proofs.triples.triples.Given as goal

abbrev pub invariant-loop-first : goal.invariant-loop-first
invariant-loop-first g l =
    map triple_in l.list.items ≡ joined l.first (first_cell l.table l.w)
