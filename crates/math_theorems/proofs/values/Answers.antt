use Rattle.fpl_numbers.specs.Kinds.{field_of}
use Rattle.math_theorems.proofs.ValueLaws.{derives_over, values_respect, values_in_parts, void_is_zero, triples_suffice}
use Rattle.math_theorems.proofs.Three.{three_is}
use Rattle.math_theorems.proofs.values.Goals as goal

pub returns-clause-over : goal.returns-clause-over
returns-clause-over c = λ k. derives_over (field_of k)

pub returns-clause-one_value : goal.returns-clause-one_value
returns-clause-one_value c = λ k. values_respect (field_of k)

pub returns-clause-parts : goal.returns-clause-parts
returns-clause-parts c = λ k. values_in_parts (field_of k)

pub returns-clause-void : goal.returns-clause-void
returns-clause-void c = λ k. void_is_zero (field_of k)

pub returns-clause-triples : goal.returns-clause-triples
returns-clause-triples c = λ k. triples_suffice (field_of k)

pub returns-clause-cubes : goal.returns-clause-cubes
returns-clause-cubes c = λ k. three_is k
