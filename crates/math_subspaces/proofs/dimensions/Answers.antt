use Rattle.fpl_numbers.specs.Kinds.{field_of}
use Rattle.math_subspaces.proofs.Counts.{count_bounded, count_grows, equal_counts}
use Rattle.math_subspaces.proofs.dimensions.Goals as goal

pub returns-clause-bounded : goal.returns-clause-bounded
returns-clause-bounded c = λ k. count_bounded (field_of k)

pub returns-clause-grows : goal.returns-clause-grows
returns-clause-grows c = λ k. count_grows (field_of k)

pub returns-clause-equal : goal.returns-clause-equal
returns-clause-equal c = λ k. equal_counts (field_of k)
