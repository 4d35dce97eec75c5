use Rattle.plain_walks.proofs.Walking.{walks_are_standard}
use Rattle.plain_walks.proofs.walks_are_standard.Goals as goal

pub returns : goal.returns
returns c = walks_are_standard
