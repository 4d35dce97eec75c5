use Rattle.fpl_numbers.specs.Kinds.{field_of}
use Rattle.math_structure.proofs.Centre.{the_centre_is_kernel, central_is_all}
use Rattle.math_structure.proofs.centres.Goals as goal

pub returns-clause-kernel : goal.returns-clause-kernel
returns-clause-kernel c = λ k. the_centre_is_kernel (field_of k)

pub returns-clause-all : goal.returns-clause-all
returns-clause-all c = λ k. central_is_all (field_of k)
