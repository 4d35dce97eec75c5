use Rattle.math_fields.proofs.Primes.{prime_by_trial}
use Rattle.math_fields.proofs.primes_by_trial.Goals as goal

pub returns : goal.returns
returns c = prime_by_trial
