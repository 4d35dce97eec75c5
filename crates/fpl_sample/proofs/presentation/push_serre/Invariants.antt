use Rattle.std.proofs.Common.{◌≡◌, ◌+◌, ◌++◌}
use Rattle.math_linear.specs.Lists.{joined}
use Rattle.fpl_sample.specs.TypeA.{serre_at}
use Rattle.fpl_sample.proofs.presentation.push_serre.Given as goal

abbrev pub invariant-loop-j : goal.invariant-loop-j
invariant-loop-j l = l.all ≡ l.fn.all ++ joined l.j (λ j. serre_at l.i (j + 1))
