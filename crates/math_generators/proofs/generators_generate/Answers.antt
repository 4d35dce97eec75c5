use Rattle.fpl_numbers.specs.Kinds.{field_of}
use Rattle.math_generators.proofs.Built.{built_is_generated}
use Rattle.math_generators.proofs.Rows.{all_from_generators}
use Rattle.math_generators.proofs.generators_generate.Goals as goal

pub returns-clause-built : goal.returns-clause-built
returns-clause-built c = λ k. built_is_generated (field_of k)

pub returns-clause-all : goal.returns-clause-all
returns-clause-all c = λ k. all_from_generators (field_of k)
