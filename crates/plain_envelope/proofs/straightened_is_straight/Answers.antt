use Rattle.fpl_numbers.specs.Kinds.{field_of}
use Rattle.plain_envelope.proofs.Straightened.{straightened_is_straight, one_straightened}
use Rattle.plain_envelope.proofs.straightened_is_straight.Goals as goal

pub returns-clause-straight : goal.returns-clause-straight
returns-clause-straight c = λ k. straightened_is_straight (field_of k)

pub returns-clause-one : goal.returns-clause-one
returns-clause-one c = λ k. one_straightened (field_of k)
