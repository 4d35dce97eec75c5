use Rattle.fpl_numbers.specs.Kinds.{field_of}
use Rattle.plain_envelope.proofs.Straightened.{product_of_values}
use Rattle.plain_envelope.proofs.product_of_values.Goals as goal

pub returns : goal.returns
returns c = λ k. product_of_values (field_of k)
