use Rattle.fpl_numbers.specs.Kinds.{field_of}
use Rattle.math_theorems.proofs.LinearLaws.{free_rows_solve, kernel_of_rows}
use Rattle.math_theorems.proofs.kernels.Goals as goal

pub returns-clause-solutions : goal.returns-clause-solutions
returns-clause-solutions c = λ k. free_rows_solve (field_of k)

pub returns-clause-rows : goal.returns-clause-rows
returns-clause-rows c = λ k. kernel_of_rows (field_of k)
