use Rattle.fpl_forms.proofs.Ledgers.{grows_trans}
use Rattle.fpl_facts.proofs.zeros.less.Goals as goal

pub returns-clause-grows : goal.returns-clause-grows
returns-clause-grows c = grows_trans c.in_ok-unit.ensures.grows (grows_trans c.in_ok-down.ensures.grows (grows_trans c.in_ok-up.ensures.grows c.in_ok-rest.ensures.grows))
