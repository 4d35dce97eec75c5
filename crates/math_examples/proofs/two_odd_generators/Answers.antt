use Rattle.fpl_numbers.specs.Kinds.{field_of}
use Rattle.math_examples.proofs.OddPair.{odd_pair_exchanges, odd_pair_is_free, odd_pair_has_sign}
use Rattle.math_examples.proofs.two_odd_generators.Goals as goal

pub returns-clause-exchanges : goal.returns-clause-exchanges
returns-clause-exchanges c = λ k. odd_pair_exchanges (field_of k)

pub returns-clause-free : goal.returns-clause-free
returns-clause-free c = λ k. odd_pair_is_free (field_of k)

pub returns-clause-sign : goal.returns-clause-sign
returns-clause-sign c = λ k. odd_pair_has_sign (field_of k)
