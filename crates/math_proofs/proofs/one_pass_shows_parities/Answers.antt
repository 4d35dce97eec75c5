use Rattle.math_proofs.proofs.ShownParities.{shown_is_had}
use Rattle.math_proofs.proofs.one_pass_shows_parities.Goals as goal

pub returns : goal.returns
returns c = λ k. shown_is_had
