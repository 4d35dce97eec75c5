use Rattle.fpl_numbers.specs.Kinds.{field_of}
use Rattle.math_theorems.proofs.LinearLaws.{spans_are_one, sweeps_to_zero, sweeps_in_span, sweeps_pivots, some_closed_list, one_closed_list}
use Rattle.math_theorems.proofs.closed_lists.Goals as goal

pub returns-clause-spans : goal.returns-clause-spans
returns-clause-spans c = λ k. spans_are_one (field_of k)

pub returns-clause-zero : goal.returns-clause-zero
returns-clause-zero c = λ k. sweeps_to_zero (field_of k)

pub returns-clause-rest : goal.returns-clause-rest
returns-clause-rest c = λ k. sweeps_in_span (field_of k)

pub returns-clause-pivots : goal.returns-clause-pivots
returns-clause-pivots c = λ k. sweeps_pivots (field_of k)

pub returns-clause-some : goal.returns-clause-some
returns-clause-some c = λ k. some_closed_list (field_of k)

pub returns-clause-one : goal.returns-clause-one
returns-clause-one c = λ k. one_closed_list (field_of k)
