use Rattle.fpl_bytes.proofs.StoredNumbers.{number_code}
use Rattle.fpl_bytes.proofs.laws.numbers_are_read_back.Goals as goal

pub returns : goal.returns
returns c = number_code
