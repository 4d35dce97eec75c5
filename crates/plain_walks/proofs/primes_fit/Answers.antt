use Rattle.plain_walks.proofs.StopsThere.{primes_fit, primes_stop}
use Rattle.plain_walks.proofs.primes_fit.Goals as goal

pub returns-clause-fit : goal.returns-clause-fit
returns-clause-fit c = primes_fit

pub returns-clause-stop : goal.returns-clause-stop
returns-clause-stop c = primes_stop
