use Rattle.plain_weights.proofs.Computed.{computes_one, computes_over_primes}
use Rattle.plain_weights.proofs.computing.Goals as goal

pub returns-clause-one : goal.returns-clause-one
returns-clause-one c = computes_one

pub returns-clause-primes : goal.returns-clause-primes
returns-clause-primes c = computes_over_primes
