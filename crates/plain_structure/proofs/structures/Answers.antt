use Rattle.plain_structure.proofs.Centre.{centre_means}
use Rattle.plain_structure.proofs.Series.{series_means}
use Rattle.plain_structure.proofs.Ideals.{ideal_means}
use Rattle.plain_structure.proofs.structures.Goals as goal

pub returns-clause-centre : goal.returns-clause-centre
returns-clause-centre c = λ p. centre_means p

pub returns-clause-series : goal.returns-clause-series
returns-clause-series c = λ p. series_means p

pub returns-clause-ideal : goal.returns-clause-ideal
returns-clause-ideal c = λ p. ideal_means p
