use Rattle.fpl_numbers.specs.Kinds.{field_of}
use Rattle.math_theorems.proofs.StandardLaws.{built_is_standard, standard_is_built, some_standard, one_standard, standard_is_sound}
use Rattle.math_theorems.proofs.standard_table.Goals as goal

pub returns-clause-built : goal.returns-clause-built
returns-clause-built c = λ k. built_is_standard (field_of k)

pub returns-clause-back : goal.returns-clause-back
returns-clause-back c = λ k. standard_is_built (field_of k)

pub returns-clause-some : goal.returns-clause-some
returns-clause-some c = λ k. some_standard (field_of k)

pub returns-clause-one : goal.returns-clause-one
returns-clause-one c = λ k. one_standard (field_of k)

pub returns-clause-sound : goal.returns-clause-sound
returns-clause-sound c = λ k. standard_is_sound (field_of k)
