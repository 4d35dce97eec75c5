use Rattle.std.specs.Int.{w32, w64}
use Rattle.fpl_bytes.proofs.WholeNumbers.{wide32, wide64, whole_code}
use Rattle.fpl_bytes.proofs.laws.wholes_are_read_back.Goals as goal

pub returns-clause-four : goal.returns-clause-four
returns-clause-four c = λ end. whole_code w32 wide32 end

pub returns-clause-eight : goal.returns-clause-eight
returns-clause-eight c = λ end. whole_code w64 wide64 end
