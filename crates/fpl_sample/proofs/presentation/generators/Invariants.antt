use Rattle.std.proofs.Common.{◌≡◌, ◌+◌, ◌∷◌, []}
use Rattle.math_linear.specs.Lists.{joined}
use Rattle.fpl_sample.specs.TypeA.{generator}
use Rattle.fpl_sample.proofs.presentation.generators.Given as goal

abbrev pub invariant-loop-i : goal.invariant-loop-i
invariant-loop-i l = l.all ≡ joined l.i (λ i. generator (i + 1) ∷ [])
