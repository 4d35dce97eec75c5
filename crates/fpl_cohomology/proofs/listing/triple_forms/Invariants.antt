use Rattle.std.proofs.Common.{◌≡◌, map, take}
use Rattle.fpl_cohomology.specs.Forms.{triple_tuple, triple_in}
use Rattle.fpl_cohomology.proofs.listing.triple_forms.Given as goal

abbrev pub invariant-loop-k : goal.invariant-loop-k
invariant-loop-k g l = l.forms ≡ map (λ x. triple_tuple (triple_in x)) (take l.k l.triples.items)
