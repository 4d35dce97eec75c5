use Rattle.std.proofs.Common.{◌≡◌, ◌+◌, ◌++◌}
use Rattle.math_linear.specs.Lists.{joined}
use Rattle.fpl_sample.specs.TypeA.{commutings}
use Rattle.fpl_sample.proofs.presentation.push_all_commuting.Given as goal

abbrev pub invariant-loop-i : goal.invariant-loop-i
invariant-loop-i l = l.all ≡ l.fn.all ++ joined l.i (λ i. commutings l.n (i + 1))
