use Rattle.fpl_numbers.specs.Kinds.{field_of}
use Rattle.math_theorems.proofs.ValueLaws.{weight_bounds_top, parity_as_written, parity_is_tested}
use Rattle.math_theorems.proofs.degrees.Goals as goal

pub returns-clause-weight : goal.returns-clause-weight
returns-clause-weight c = λ k. weight_bounds_top (field_of k)

pub returns-clause-parity : goal.returns-clause-parity
returns-clause-parity c = λ k. parity_as_written (field_of k)

pub returns-clause-test : goal.returns-clause-test
returns-clause-test c = λ k. parity_is_tested (field_of k)
