use Rattle.fpl_forms.proofs.Ledgers.{grows_trans}
use Rattle.fpl_facts.proofs.pairs.swapped.Goals as goal

pub returns-clause-grows : goal.returns-clause-grows
returns-clause-grows c = grows_trans c.in_ok-n.ensures.grows (grows_trans c.in_ok-multiple.ensures.grows c.in_ok-turned.ensures.grows)
