use Rattle.fpl_numbers.specs.Kinds.{field_of}
use Rattle.math_matrices.proofs.Ranks.{basis_spans_weight}
use Rattle.math_matrices.proofs.ranks_of_weights.Goals as goal

pub returns : goal.returns
returns c = λ k P s T tree standard. basis_spans_weight (field_of k) P s T tree standard
