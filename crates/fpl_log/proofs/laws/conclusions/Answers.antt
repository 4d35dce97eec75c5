use Rattle.fpl_log.proofs.StepsLeftOut.{conclusions_stay, conclusions_unfold}
use Rattle.fpl_log.proofs.laws.conclusions.Goals as goal

pub returns-clause-unfold : goal.returns-clause-unfold
returns-clause-unfold c = conclusions_unfold

pub returns-clause-stay : goal.returns-clause-stay
returns-clause-stay c = conclusions_stay
