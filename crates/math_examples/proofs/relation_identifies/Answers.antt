use Rattle.fpl_numbers.specs.Kinds.{field_of}
use Rattle.math_examples.proofs.Doubled.{one_is_left}
use Rattle.math_examples.proofs.relation_identifies.Goals as goal

pub returns : goal.returns
returns c = λ k. one_is_left (field_of k)
