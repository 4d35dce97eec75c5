use Rattle.fpl_numbers.specs.Kinds.{field_of}
use Rattle.math_theorems.proofs.LinearLaws.{reduces_to_zero, put_spans_more, closes_reduced, one_reduced, rows_are_closed}
use Rattle.math_theorems.proofs.echelons.Goals as goal

pub returns-clause-zero : goal.returns-clause-zero
returns-clause-zero c = λ k. reduces_to_zero (field_of k)

pub returns-clause-put : goal.returns-clause-put
returns-clause-put c = λ k. put_spans_more (field_of k)

pub returns-clause-close : goal.returns-clause-close
returns-clause-close c = λ k. closes_reduced (field_of k)

pub returns-clause-one : goal.returns-clause-one
returns-clause-one c = λ k. one_reduced (field_of k)

pub returns-clause-list : goal.returns-clause-list
returns-clause-list c = λ k. rows_are_closed (field_of k)
