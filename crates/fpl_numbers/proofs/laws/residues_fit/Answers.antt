use Rattle.fpl_numbers.proofs.Fitting.{residues_fit}
use Rattle.fpl_numbers.proofs.laws.residues_fit.Goals as goal

pub returns : goal.returns
returns c = residues_fit
