use Rattle.std.proofs.Common.{sym, ◌∙◌}
use Rattle.fpl_scalar.proofs.ResidueRows.{first_of_residues}
use Rattle.fpl_scalar.proofs.residue.ResidueField.first.Goals as goal

pub returns : goal.returns
returns c = c.first_nonzero.ensures ∙ sym (first_of_residues c.args.row.now)
