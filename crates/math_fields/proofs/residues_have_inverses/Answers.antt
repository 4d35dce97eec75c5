use Rattle.math_fields.proofs.Residues.{residue_inverse}
use Rattle.math_fields.proofs.residues_have_inverses.Goals as goal

pub returns : goal.returns
returns c = λ p a prime h. let y = residue_inverse p prime a in (y.0, y.1 h)
