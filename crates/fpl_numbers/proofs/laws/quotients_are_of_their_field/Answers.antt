use Rattle.fpl_numbers.proofs.WholeNumbers.{quotient_is, none_is}
use Rattle.fpl_numbers.proofs.laws.quotients_are_of_their_field.Goals as goal

pub returns : goal.returns
returns c = record {
  value = λ k a b h. quotient_is k h a b;
  none = λ k a b h. none_is k h a b;
}
