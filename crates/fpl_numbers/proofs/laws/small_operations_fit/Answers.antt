use Rattle.fpl_numbers.proofs.Fitting.{small_fits}
use Rattle.fpl_numbers.proofs.laws.small_operations_fit.Goals as goal

pub returns : goal.returns
returns c = small_fits
