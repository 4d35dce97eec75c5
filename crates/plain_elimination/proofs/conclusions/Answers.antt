use Rattle.plain_elimination.proofs.Concluding.{insert_is_concluded, close_is_concluded}
use Rattle.plain_elimination.proofs.conclusions.Goals as goal

pub returns-clause-insert : goal.returns-clause-insert
returns-clause-insert c = insert_is_concluded

pub returns-clause-close : goal.returns-clause-close
returns-clause-close c = close_is_concluded
