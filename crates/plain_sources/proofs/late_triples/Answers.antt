use Rattle.plain_sources.proofs.Late.{late_last, late_follow}
use Rattle.plain_sources.proofs.late_triples.Goals as goal

pub returns-clause-last : goal.returns-clause-last
returns-clause-last c = λ p T bound. late_last p T bound

pub returns-clause-follow : goal.returns-clause-follow
returns-clause-follow c = λ p T bound holds. late_follow p T bound holds
