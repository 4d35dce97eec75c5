use Rattle.fpl_numbers.specs.Kinds.{field_of}
use Rattle.math_proofs.proofs.Renumber.{renumbered_stays}
use Rattle.math_proofs.proofs.lines_may_be_renumbered.Goals as goal

pub returns : goal.returns
returns c = λ k. renumbered_stays (field_of k)
