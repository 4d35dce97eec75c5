use Rattle.fpl_forms.proofs.Ledgers.{grows_trans}
use Rattle.fpl_facts.proofs.zeros.taken_off.Goals as goal

pub returns-clause-grows : goal.returns-clause-grows
returns-clause-grows c = grows_trans c.in_ok-once.ensures.grows (grows_trans c.in_ok-off.ensures.grows c.in_ok-sum.ensures.grows)
