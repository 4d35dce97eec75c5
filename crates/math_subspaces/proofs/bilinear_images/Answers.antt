use Rattle.fpl_numbers.specs.Kinds.{field_of}
use Rattle.math_subspaces.proofs.Images.{images_span}
use Rattle.math_subspaces.proofs.bilinear_images.Goals as goal

pub returns : goal.returns
returns c = λ k. images_span (field_of k)
