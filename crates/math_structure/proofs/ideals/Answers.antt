use Rattle.fpl_numbers.specs.Kinds.{field_of}
use Rattle.math_structure.proofs.Rounds.{ideal_is_closed, ideal_is_least, closed_by_units, ideal_by_rounds, rounds_stay_within, rounds_stop}
use Rattle.math_structure.proofs.ideals.Goals as goal

pub returns-clause-least : goal.returns-clause-least
returns-clause-least c = λ k. ideal_is_least (field_of k)

pub returns-clause-closed : goal.returns-clause-closed
returns-clause-closed c = λ k. closed_by_units (field_of k)

pub returns-clause-rounds : goal.returns-clause-rounds
returns-clause-rounds c = λ k. ideal_by_rounds (field_of k)

pub returns-clause-within : goal.returns-clause-within
returns-clause-within c = λ k. rounds_stay_within (field_of k)

pub returns-clause-stop : goal.returns-clause-stop
returns-clause-stop c = λ k. rounds_stop (field_of k)

pub returns-clause-ideal : goal.returns-clause-ideal
returns-clause-ideal c = λ k. ideal_is_closed (field_of k)
