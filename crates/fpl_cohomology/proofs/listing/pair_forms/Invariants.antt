use Rattle.std.proofs.Common.{◌≡◌, map, take}
use Rattle.fpl_cohomology.specs.Forms.{pair_tuple}
use Rattle.fpl_cohomology.proofs.listing.pair_forms.Given as goal

abbrev pub invariant-loop-s : goal.invariant-loop-s
invariant-loop-s g l = l.forms ≡ map pair_tuple (take l.s l.pairs)
