use Rattle.plain_cohomology.specs.Plain.{triple_row}
use Rattle.fpl_cohomology.specs.Forms.{triple_in}
use Rattle.fpl_cohomology.proofs.Putting.{IsLeft}
use Rattle.fpl_cohomology.proofs.put.form_all.Given as goal

abbrev pub invariant-loop-k : goal.invariant-loop-k
invariant-loop-k g l = IsLeft (λ x. triple_row l.table l.tuples.weight (triple_in x)) l.tuples.triples.items l.k
