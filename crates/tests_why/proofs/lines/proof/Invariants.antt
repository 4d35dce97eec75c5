use Rattle.fpl_lines.specs.Meaning.{AreLines}
use Rattle.tests_why.proofs.lines.proof.Given as goal

abbrev pub invariant-loop-i : goal.invariant-loop-i
invariant-loop-i l = AreLines l.p l.lines
