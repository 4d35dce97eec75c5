use Rattle.std.proofs.Common.{◌≡◌, map, take}
use Rattle.fpl_cohomology.specs.Forms.{single_tuple}
use Rattle.fpl_cohomology.proofs.listing.single_forms.Given as goal

abbrev pub invariant-loop-k : goal.invariant-loop-k
invariant-loop-k g l = l.forms ≡ map single_tuple (take l.k l.singles.items)
