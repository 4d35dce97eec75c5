use Rattle.fpl_numbers.specs.Kinds.{field_of}
use Rattle.math_subspaces.proofs.LeastSpaces.{least_is_least, least_by_span}
use Rattle.math_subspaces.proofs.least_spaces.Goals as goal

pub returns-clause-least : goal.returns-clause-least
returns-clause-least c = λ k. least_is_least (field_of k)

pub returns-clause-span : goal.returns-clause-span
returns-clause-span c = λ k. least_by_span (field_of k)
