use Rattle.fpl_ranks.specs.Ranks.{AreBasisMatrices}
use Rattle.fpl_ranks.proofs.elements.basis_matrices.Given as goal

abbrev pub invariant-loop-i : goal.invariant-loop-i
invariant-loop-i l = AreBasisMatrices l.a l.table l.i l.matrices
