use Rattle.std.proofs.Common.{◌<◌, ℕ}
use Rattle.fpl_why.specs.Checking.{IsInstanceAt}
use Rattle.fpl_why.proofs.check.check_proof.Given as goal

abbrev pub invariant-loop-n : goal.invariant-loop-n
invariant-loop-n l = (m : ℕ) → m < l.n → IsInstanceAt l.checker.presentation.now l.checker.lines.now m
