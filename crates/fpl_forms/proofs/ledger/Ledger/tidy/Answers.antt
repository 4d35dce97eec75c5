use Rattle.fpl_forms.proofs.Ledgers.{grows_trans}
use Rattle.fpl_forms.proofs.Moves.{grows_atoms}
use Rattle.fpl_forms.proofs.ledger.Ledger.tidy.Goals as goal

pub drop_zeros-requires-clause-atoms : goal.drop_zeros-requires-clause-atoms
drop_zeros-requires-clause-atoms c = grows_atoms c.in_ok-ordered.ensures.grows c.args.atoms.now c.requires.atoms

pub returns-clause-grows : goal.returns-clause-grows
returns-clause-grows c = grows_trans c.in_ok-ordered.ensures.grows c.in_ok-kept.ensures.grows
