use Rattle.std.proofs.Common.{refl, []}
use Rattle.fpl_reply.specs.Reply.{done}
use Rattle.fpl_reply.specs.Leaves.Leaves.{whole, part}
use Rattle.fpl_reply.proofs.put.put_whole.Goals as goal

pub returns-in-Ok-clause-reply : goal.returns-in-Ok-clause-reply
returns-in-Ok-clause-reply g c = whole (done []) c.args.text.now refl c.in-Ok.ensures.whole

pub returns-in-Err-clause-reply : goal.returns-in-Err-clause-reply
returns-in-Err-clause-reply g c = part (done c.args.text.now) refl tt c.in-Err.ensures.part
