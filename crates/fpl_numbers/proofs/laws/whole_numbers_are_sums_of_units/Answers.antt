use Rattle.fpl_numbers.proofs.WholeNumbers.{whole_is_number, whole_one, whole_sum}
use Rattle.fpl_numbers.proofs.laws.whole_numbers_are_sums_of_units.Goals as goal

pub returns : goal.returns
returns c = record {
  number = whole_is_number;
  one = whole_one;
  sum = whole_sum;
}
