use Rattle.fpl_numbers.specs.Kinds.{field_of}
use Rattle.math_matrices.proofs.Main.{bracket_is_commutator, bracket_is_super}
use Rattle.math_matrices.proofs.bracket_of_matrices.Goals as goal

pub returns-clause-commutator : goal.returns-clause-commutator
returns-clause-commutator c = λ k. bracket_is_commutator (field_of k)

pub returns-clause-laws : goal.returns-clause-laws
returns-clause-laws c = λ k. bracket_is_super (field_of k)
