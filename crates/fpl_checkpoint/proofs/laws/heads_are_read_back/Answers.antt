use Rattle.plain_texts.proofs.CanonicalTexts.{has_presentation}
use Rattle.fpl_checkpoint.proofs.OneHead.{head_again, head_taken}
use Rattle.fpl_checkpoint.proofs.laws.heads_are_read_back.Goals as goal

pub returns-clause-again : goal.returns-clause-again
returns-clause-again c = λ version p rest known sound short. head_again version p rest known (has_presentation p sound) short

pub returns-clause-taken : goal.returns-clause-taken
returns-clause-taken c = head_taken
