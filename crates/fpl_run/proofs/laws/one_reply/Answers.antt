use Rattle.fpl_run.proofs.OneReply as replies
use Rattle.fpl_run.proofs.laws.one_reply.Goals as goal

pub returns : goal.returns
returns c = replies.one_reply
