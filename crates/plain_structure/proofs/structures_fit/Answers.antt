use Rattle.plain_structure.proofs.Fitting.{centres_fit, all_series_fit, ideals_fit}
use Rattle.plain_structure.proofs.structures_fit.Goals as goal

pub returns-clause-centre : goal.returns-clause-centre
returns-clause-centre c = λ p. centres_fit p

pub returns-clause-series : goal.returns-clause-series
returns-clause-series c = λ p. all_series_fit p

pub returns-clause-ideal : goal.returns-clause-ideal
returns-clause-ideal c = λ p. ideals_fit p
