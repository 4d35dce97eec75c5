use Rattle.fpl_run.proofs.Within as within
use Rattle.fpl_run.proofs.laws.within_limits.Goals as goal

pub returns-clause-within : goal.returns-clause-within
returns-clause-within c = within.within_limits

pub returns-clause-unsupported : goal.returns-clause-unsupported
returns-clause-unsupported c = within.fractions_unsupported
