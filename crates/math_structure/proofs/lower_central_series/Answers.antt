use Rattle.fpl_numbers.specs.Kinds.{field_of}
use Rattle.math_structure.proofs.Series.{term_by_rows, terms_fall, series_ends, weights_stay}
use Rattle.math_structure.proofs.lower_central_series.Goals as goal

pub returns-clause-rows : goal.returns-clause-rows
returns-clause-rows c = λ k. term_by_rows (field_of k)

pub returns-clause-falls : goal.returns-clause-falls
returns-clause-falls c = λ k. terms_fall (field_of k)

pub returns-clause-ends : goal.returns-clause-ends
returns-clause-ends c = λ k. series_ends (field_of k)

pub returns-clause-within : goal.returns-clause-within
returns-clause-within c = λ k. weights_stay (field_of k)
