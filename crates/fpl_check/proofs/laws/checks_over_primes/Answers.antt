use Rattle.fpl_check.proofs.Fitting.{checks_fit}
use Rattle.fpl_check.proofs.laws.checks_over_primes.Goals as goal

pub returns : goal.returns
returns c = checks_fit
