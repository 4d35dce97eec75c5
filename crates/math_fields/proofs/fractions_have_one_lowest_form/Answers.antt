use Rattle.math_fields.proofs.Divisors.{lowest_equal}
use Rattle.math_fields.proofs.fractions_have_one_lowest_form.Goals as goal

pub returns : goal.returns
returns c = λ n e m h some more. lowest_equal n e m h more
