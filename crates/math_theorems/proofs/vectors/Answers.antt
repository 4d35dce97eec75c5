use Rattle.fpl_numbers.specs.Kinds.{field_of}
use Rattle.math_theorems.proofs.ValueLaws.{exchange_in_parts, jacobi_in_parts}
use Rattle.math_theorems.proofs.SquareLaws.{squares_in_parts, cubes_in_parts}
use Rattle.math_theorems.proofs.vectors.Goals as goal

pub returns-clause-exchange : goal.returns-clause-exchange
returns-clause-exchange c = λ k. exchange_in_parts (field_of k)

pub returns-clause-jacobi : goal.returns-clause-jacobi
returns-clause-jacobi c = λ k. jacobi_in_parts (field_of k)

pub returns-clause-squares : goal.returns-clause-squares
returns-clause-squares c = λ k. squares_in_parts (field_of k)

pub returns-clause-cubes : goal.returns-clause-cubes
returns-clause-cubes c = λ k. cubes_in_parts (field_of k)
