use Rattle.fpl_run.proofs.Standing as laws
use Rattle.fpl_run.proofs.laws.walks_are_standard.Goals as goal

pub returns-clause-standard : goal.returns-clause-standard
returns-clause-standard c = laws.walks_standard

pub returns-clause-fit : goal.returns-clause-fit
returns-clause-fit c = laws.primes_fit
