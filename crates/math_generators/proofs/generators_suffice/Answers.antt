use Rattle.fpl_numbers.specs.Kinds.{field_of}
use Rattle.math_generators.proofs.Suffice.{centre_by_generators, term_by_generators, ideal_by_generators}
use Rattle.math_generators.proofs.generators_suffice.Goals as goal

pub returns-clause-centre : goal.returns-clause-centre
returns-clause-centre c = λ k. centre_by_generators (field_of k)

pub returns-clause-terms : goal.returns-clause-terms
returns-clause-terms c = λ k. term_by_generators (field_of k)

pub returns-clause-ideal : goal.returns-clause-ideal
returns-clause-ideal c = λ k. ideal_by_generators (field_of k)
