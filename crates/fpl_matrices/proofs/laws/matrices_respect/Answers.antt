use Rattle.fpl_matrices.proofs.Meant.{matrices_are_meant, respected_exactly, derived_holds}
use Rattle.fpl_matrices.proofs.laws.matrices_respect.Goals as goal

pub returns-clause-matrices : goal.returns-clause-matrices
returns-clause-matrices c = matrices_are_meant

pub returns-clause-exactly : goal.returns-clause-exactly
returns-clause-exactly c = respected_exactly

pub returns-clause-derived : goal.returns-clause-derived
returns-clause-derived c = derived_holds
