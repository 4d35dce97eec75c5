use Rattle.math_fields.proofs.Gcd.{gcd_is}
use Rattle.fpl_numbers.proofs.laws.gcd_is_greatest.Goals as goal

pub returns : goal.returns
returns c = gcd_is
