use Rattle.fpl_numbers.specs.Kinds.{field_of}
use Rattle.math_cohomology.proofs.DegreeOne.{cocycles_are_kernel1, low_represents1}
use Rattle.math_cohomology.proofs.DegreeTwo.{cocycles_are_kernel2, coboundaries_are_span, low_represents2}
use Rattle.math_cohomology.proofs.cohomology.Goals as goal

pub returns-clause-cocycles1 : goal.returns-clause-cocycles1
returns-clause-cocycles1 c = λ k. cocycles_are_kernel1 (field_of k)

pub returns-clause-cocycles2 : goal.returns-clause-cocycles2
returns-clause-cocycles2 c = λ k. cocycles_are_kernel2 (field_of k)

pub returns-clause-coboundaries : goal.returns-clause-coboundaries
returns-clause-coboundaries c = λ k. coboundaries_are_span (field_of k)

pub returns-clause-one : goal.returns-clause-one
returns-clause-one c = λ k. low_represents1 (field_of k)

pub returns-clause-two : goal.returns-clause-two
returns-clause-two c = λ k. low_represents2 (field_of k)
