use Rattle.fpl_numbers.specs.Kinds.{field_of}
use Rattle.plain_envelope.proofs.Products.{products_are_listed}
use Rattle.plain_envelope.proofs.products_are_listed.Goals as goal

pub returns : goal.returns
returns c = λ k. products_are_listed (field_of k)
