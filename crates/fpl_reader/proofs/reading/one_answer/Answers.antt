use Rattle.fpl_reader.proofs.OneAnswer.{one_presentation, one_refusal, not_both, some_answer}
use Rattle.fpl_reader.proofs.reading.one_answer.Goals as goal

pub returns-clause-presentation : goal.returns-clause-presentation
returns-clause-presentation c = one_presentation

pub returns-clause-refusal : goal.returns-clause-refusal
returns-clause-refusal c = one_refusal

pub returns-clause-apart : goal.returns-clause-apart
returns-clause-apart c = not_both

pub returns-clause-some : goal.returns-clause-some
returns-clause-some c = some_answer
