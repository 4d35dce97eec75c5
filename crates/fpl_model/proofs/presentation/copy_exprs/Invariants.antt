use Rattle.std.proofs.Common.{◌≡◌, take}
use Rattle.fpl_model.proofs.presentation.copy_exprs.Given as goal

abbrev pub invariant-loop-e : goal.invariant-loop-e
invariant-loop-e l = (l.all ≡ take l.e-index l.e-items) × (l.e-items ≡ l.from)
