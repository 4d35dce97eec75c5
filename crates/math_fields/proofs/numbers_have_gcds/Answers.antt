use Rattle.math_fields.proofs.Divisors.{some_gcd}
use Rattle.math_fields.proofs.numbers_have_gcds.Goals as goal

pub returns : goal.returns
returns c = some_gcd
