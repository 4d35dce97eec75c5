use Rattle.fpl_numbers.specs.Kinds.{field_of}
use Rattle.math_theorems.proofs.ExampleLaws.{pair_is_free, odd_square_is_free, zero_brackets_fail}
use Rattle.math_theorems.proofs.small_presentations.Goals as goal

pub returns-clause-pair : goal.returns-clause-pair
returns-clause-pair c = λ k. pair_is_free (field_of k)

pub returns-clause-odd_square : goal.returns-clause-odd_square
returns-clause-odd_square c = λ k. odd_square_is_free (field_of k)

pub returns-clause-zero_table : goal.returns-clause-zero_table
returns-clause-zero_table c = λ k. zero_brackets_fail (field_of k)
