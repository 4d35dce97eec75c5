use Rattle.std.proofs.Common.{◌≡◌, drop}
use Rattle.plain_cohomology.specs.Plain.{is_pivot}
use Rattle.fpl_cohomology.proofs.chosen.is_pivot.Given as goal

abbrev pub invariant-loop-k : goal.invariant-loop-k
invariant-loop-k g l = is_pivot l.rows l.q ≡ is_pivot (drop l.k l.rows) l.q
