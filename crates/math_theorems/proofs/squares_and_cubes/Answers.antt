use Rattle.fpl_numbers.specs.Kinds.{field_of}
use Rattle.math_theorems.proofs.SquareLaws.{even_squares_are_zero, odd_cubes_are_zero}
use Rattle.math_theorems.proofs.squares_and_cubes.Goals as goal

pub returns-clause-squares : goal.returns-clause-squares
returns-clause-squares c = λ k. even_squares_are_zero (field_of k)

pub returns-clause-cubes : goal.returns-clause-cubes
returns-clause-cubes c = λ k. odd_cubes_are_zero (field_of k)
