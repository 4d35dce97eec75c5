use Rattle.std.proofs.Common.{◌≡◌, Ok, subst}
use Rattle.plain_cohomology.specs.Plain.{low_of}
use Rattle.plain_cohomology.proofs.Low.{low_means}
use Rattle.fpl_cohomology.specs.Rows.{low_as}
use Rattle.fpl_cohomology.proofs.Parts.{low_gives}
use Rattle.fpl_cohomology.proofs.representing.low.Goals as goal

pub returns-clause-means : goal.returns-clause-means
returns-clause-means g c = λ p sound for law.
    low_means p sound c.args.table.now for law c.args.w c.requires.1 (low_as c.in_ok-h1.h1 c.in_ok-h2.h2)
    (subst (λ v. low_of c.args.table.now v ≡ Ok (low_as c.in_ok-h1.h1 c.in_ok-h2.h2)) c.in_ok-tuples.ensures.weight
    (low_gives c.args.table.now c.in_ok-tuples.tuples.weight c.in_ok-h1.h1 c.in_ok-h1.ensures.value c.in_ok-cocycles.cocycles c.in_ok-cocycles.ensures.value
    c.in_ok-coboundaries.coboundaries c.in_ok-h2.h2 c.in_ok-coboundaries.ensures.value c.in_ok-h2.ensures))
