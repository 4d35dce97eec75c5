use Rattle.fpl_checkpoint.proofs.OneHead.{one_head, one_refusal, not_bad, some_head}
use Rattle.fpl_checkpoint.proofs.laws.one_head.Goals as goal

pub returns-clause-head : goal.returns-clause-head
returns-clause-head c = one_head

pub returns-clause-refusal : goal.returns-clause-refusal
returns-clause-refusal c = one_refusal

pub returns-clause-apart : goal.returns-clause-apart
returns-clause-apart c = not_bad

pub returns-clause-some : goal.returns-clause-some
returns-clause-some c = some_head
