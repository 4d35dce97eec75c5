use Rattle.fpl_numbers.specs.Kinds.{field_of}
use Rattle.math_generators.proofs.Rows.{centre_is_kernel_of, ideal_by_generator_rounds, generator_rounds_stay, generator_rounds_stop}
use Rattle.math_generators.proofs.Suffice.{term_by_generator_rows, closed_by_generators}
use Rattle.math_generators.proofs.generator_rows_suffice.Goals as goal

pub returns-clause-kernel : goal.returns-clause-kernel
returns-clause-kernel c = λ k. centre_is_kernel_of (field_of k)

pub returns-clause-terms : goal.returns-clause-terms
returns-clause-terms c = λ k. term_by_generator_rows (field_of k)

pub returns-clause-closed : goal.returns-clause-closed
returns-clause-closed c = λ k. closed_by_generators (field_of k)

pub returns-clause-rounds : goal.returns-clause-rounds
returns-clause-rounds c = λ k. ideal_by_generator_rounds (field_of k)

pub returns-clause-stay : goal.returns-clause-stay
returns-clause-stay c = λ k. generator_rounds_stay (field_of k)

pub returns-clause-stop : goal.returns-clause-stop
returns-clause-stop c = λ k. generator_rounds_stop (field_of k)
