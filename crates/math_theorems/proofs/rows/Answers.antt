use Rattle.fpl_numbers.specs.Kinds.{field_of}
use Rattle.math_theorems.proofs.StandardLaws.{rows_are_zero, closed_rows_are_zero}
use Rattle.math_theorems.proofs.rows.Goals as goal

pub returns-clause-sources : goal.returns-clause-sources
returns-clause-sources c = λ k. rows_are_zero (field_of k)

pub returns-clause-closed : goal.returns-clause-closed
returns-clause-closed c = λ k. closed_rows_are_zero (field_of k)
