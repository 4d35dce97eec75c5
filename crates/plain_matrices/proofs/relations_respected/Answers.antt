use Rattle.plain_matrices.proofs.Respect.{respect_means, respected_holds}
use Rattle.plain_matrices.proofs.relations_respected.Goals as goal

pub returns-clause-means : goal.returns-clause-means
returns-clause-means c = respect_means

pub returns-clause-holds : goal.returns-clause-holds
returns-clause-holds c = respected_holds
