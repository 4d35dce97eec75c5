use Rattle.fpl_numbers.specs.Kinds.{field_of}
use Rattle.math_generators.proofs.Triples.{late_triples_follow}
use Rattle.math_generators.proofs.generators_give_the_rows.Goals as goal

pub returns : goal.returns
returns c = λ k. late_triples_follow (field_of k)
