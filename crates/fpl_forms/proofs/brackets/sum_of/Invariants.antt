use Rattle.std.proofs.Common.{◌≡◌, take}
use Rattle.fpl_forms.proofs.brackets.sum_of.Given as goal

abbrev pub invariant-loop-e : goal.invariant-loop-e
invariant-loop-e l = l.members ≡ take l.e-index l.es
