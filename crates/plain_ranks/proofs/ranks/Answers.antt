use Rattle.plain_ranks.proofs.Dimensions.{rank_means, rank_fits}
use Rattle.plain_ranks.proofs.ranks.Goals as goal

pub returns-clause-means : goal.returns-clause-means
returns-clause-means c = rank_means

pub returns-clause-fits : goal.returns-clause-fits
returns-clause-fits c = rank_fits
