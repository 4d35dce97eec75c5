use Rattle.plain_cohomology.proofs.Low.{low_means, lows_mean}
use Rattle.plain_cohomology.proofs.Fitting.{lows_fit}
use Rattle.plain_cohomology.proofs.cohomologies.Goals as goal

pub returns-clause-one : goal.returns-clause-one
returns-clause-one c = λ p. low_means p

pub returns-clause-all : goal.returns-clause-all
returns-clause-all c = λ p. lows_mean p

pub returns-clause-fit : goal.returns-clause-fit
returns-clause-fit c = lows_fit
