use Rattle.fpl_numbers.specs.Kinds.{field_of}
use Rattle.math_words.proofs.Coefficients.{coefficients_decide}
use Rattle.math_words.proofs.coefficients_decide.Goals as goal

pub returns : goal.returns
returns c = λ k. coefficients_decide (field_of k)
