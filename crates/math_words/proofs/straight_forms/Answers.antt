use Rattle.fpl_numbers.specs.Kinds.{field_of}
use Rattle.math_words.proofs.Main.{one_straight_form, action_is_straight}
use Rattle.math_words.proofs.straight_forms.Goals as goal

pub returns-clause-one : goal.returns-clause-one
returns-clause-one c = λ k. one_straight_form (field_of k)

pub returns-clause-action : goal.returns-clause-action
returns-clause-action c = λ k. action_is_straight (field_of k)
