use Rattle.std.proofs.Common.{◌≡◌, map}
use Rattle.plain_cohomology.specs.Plain.{triple_row, all_of}
use Rattle.fpl_cohomology.specs.Forms.{triple_in}
use Rattle.fpl_cohomology.proofs.Putting.{after_all, rest}
use Rattle.fpl_cohomology.proofs.boundaries.second_coboundary.Given as goal

-- the rows that are formed, then what the rest gives, is what all gives
abbrev pub invariant-loop-k : goal.invariant-loop-k
invariant-loop-k g l = after_all l.rows (all_of (rest (λ x. triple_row l.table l.tuples.weight (triple_in x)) l.tuples.triples.items l.k))
    ≡ all_of (map (λ x. triple_row l.table l.tuples.weight (triple_in x)) l.tuples.triples.items)
