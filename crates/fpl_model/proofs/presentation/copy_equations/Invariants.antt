use Rattle.std.proofs.Common.{◌≡◌, take}
use Rattle.fpl_model.proofs.presentation.copy_equations.Given as goal

abbrev pub invariant-loop-q : goal.invariant-loop-q
invariant-loop-q l = (l.all ≡ take l.q-index l.q-items) × (l.q-items ≡ l.from)
