use Rattle.std.proofs.Common.{ℕ, ◌<◌}
use Rattle.fpl_matrices.specs.Matrices.{IsRespectedAt}
use Rattle.fpl_matrices.proofs.expression.first_broken.Given as goal

abbrev pub invariant-loop-at : goal.invariant-loop-at
invariant-loop-at l = (i : ℕ) → i < l.at → IsRespectedAt l.p l.a i
