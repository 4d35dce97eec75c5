use Rattle.std.proofs.Common.{◌≡◌, ◌-◌, ℕ, length}
use Rattle.fpl_echelon.specs.Index.{place_at}
use Rattle.fpl_echelon.proofs.pivots.widen.Given as goal

abbrev pub invariant-loop-places : goal.invariant-loop-places
invariant-loop-places l = (s : ℕ) → place_at l.places.items s ≡ place_at l.initial.places.items s

abbrev pub decreases-loop-places : goal.decreases-loop-places
decreases-loop-places l = l.lead - length l.places.items
