use Rattle.fpl_numbers.specs.Kinds.{field_of}
use Rattle.plain_envelope.proofs.Words.{words_are_listed}
use Rattle.plain_envelope.proofs.Limits.{limit_is_first}
use Rattle.plain_envelope.proofs.words_are_listed.Goals as goal

pub returns-clause-words : goal.returns-clause-words
returns-clause-words c = λ k. words_are_listed (field_of k)

pub returns-clause-limit : goal.returns-clause-limit
returns-clause-limit c = λ k. limit_is_first (field_of k)
