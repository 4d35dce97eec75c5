use Rattle.fpl_numbers.specs.Kinds.{field_of}
use Rattle.math_proofs.proofs.Sound.{lines_derive}
use Rattle.math_proofs.proofs.proofs_derive.Goals as goal

pub returns : goal.returns
returns c = λ k. lines_derive (field_of k)
