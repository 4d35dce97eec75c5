use Rattle.fpl_numbers.specs.Kinds.{field_of}
use Rattle.math_cohomology.proofs.Twice.{coboundary_twice, coboundary_is_form2, coboundary_is_form3, coboundaries_close}
use Rattle.math_cohomology.proofs.Sorted.{sorted_suffice2, sorted_suffice3}
use Rattle.math_cohomology.proofs.forms.Goals as goal

pub returns-clause-twice : goal.returns-clause-twice
returns-clause-twice c = λ k. coboundary_twice (field_of k)

pub returns-clause-two : goal.returns-clause-two
returns-clause-two c = λ k. coboundary_is_form2 (field_of k)

pub returns-clause-three : goal.returns-clause-three
returns-clause-three c = λ k. coboundary_is_form3 (field_of k)

pub returns-clause-close : goal.returns-clause-close
returns-clause-close c = λ k. coboundaries_close (field_of k)

pub returns-clause-pairs : goal.returns-clause-pairs
returns-clause-pairs c = λ k. sorted_suffice2 (field_of k)

pub returns-clause-triples : goal.returns-clause-triples
returns-clause-triples c = λ k. sorted_suffice3 (field_of k)
