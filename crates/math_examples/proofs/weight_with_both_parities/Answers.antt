use Rattle.fpl_numbers.specs.Kinds.{field_of}
use Rattle.math_examples.proofs.Both.{weight_has_both}
use Rattle.math_examples.proofs.weight_with_both_parities.Goals as goal

pub returns : goal.returns
returns c = λ k. weight_has_both (field_of k)
