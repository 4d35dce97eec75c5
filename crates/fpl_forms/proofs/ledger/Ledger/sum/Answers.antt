use Rattle.std.proofs.Common.{◌∙◌, ap}
use Rattle.fpl_forms.specs.Forms.{tidied}
use Rattle.fpl_forms.specs.Combining.{joined}
use Rattle.fpl_forms.proofs.Ledgers.{grows_trans}
use Rattle.fpl_forms.proofs.Moves.{grows_atoms}
use Rattle.fpl_forms.proofs.ledger.Ledger.sum.Goals as goal

pub tidy-requires-clause-atoms : goal.tidy-requires-clause-atoms
tidy-requires-clause-atoms c = grows_atoms c.in_ok-all.ensures.grows c.args.atoms.now c.requires.atoms

pub returns-clause-grows : goal.returns-clause-grows
returns-clause-grows c = grows_trans c.in_ok-all.ensures.grows c.in_ok-ordered.ensures.grows
