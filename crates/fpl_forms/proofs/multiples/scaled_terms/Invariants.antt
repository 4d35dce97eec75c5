use Rattle.std.proofs.Common.{◌≡◌, map, take}
use Rattle.fpl_forms.specs.Combining.{scaled}
use Rattle.fpl_forms.proofs.multiples.scaled_terms.Given as goal

abbrev pub invariant-loop-t : goal.invariant-loop-t
invariant-loop-t l = l.all.items ≡ map (scaled l.prime l.number) (take l.t-index l.terms)
