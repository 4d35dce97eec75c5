use Rattle.fpl_numbers.specs.Kinds.{field_of}
use Rattle.math_matrices.proofs.Main.{matrices_respect}
use Rattle.math_matrices.proofs.matrices_respect.Goals as goal

pub returns : goal.returns
returns c = λ k. matrices_respect (field_of k)
