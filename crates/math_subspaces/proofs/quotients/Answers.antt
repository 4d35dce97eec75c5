use Rattle.fpl_numbers.specs.Kinds.{field_of}
use Rattle.math_subspaces.proofs.Representing.{quotient_represented}
use Rattle.math_subspaces.proofs.quotients.Goals as goal

pub returns : goal.returns
returns c = λ k. quotient_represented (field_of k)
