use Rattle.std.proofs.Common.{refl}
use Rattle.fpl_reply.specs.Reply.{done}
use Rattle.fpl_reply.specs.Outcome.{reply_of}
use Rattle.fpl_run.specs.Answer.{AnswersTask}
use Rattle.fpl_run.specs.Begin.{Stops}
use Rattle.fpl_run.proofs.Ends.{at_ok, at_err, whole_leaves, stops_leave}
use Rattle.fpl_run.proofs.made.put_made.Goals as goal

pub returns-in-Ok-clause-reply : goal.returns-in-Ok-clause-reply
returns-in-Ok-clause-reply g c = λ task s text stop.
    whole_leaves task s _ _ _ c.in-Ok.text.items (at_ok c.args.made (λ made. AnswersTask task s (done made.items)) c.in-Ok.text c.in-Ok.is text)
    (rw c.deref.ensures.value at c.put_whole.ensures.reply)

pub returns-in-Err-clause-reply : goal.returns-in-Err-clause-reply
returns-in-Err-clause-reply g c = λ task s text stop. stops_leave task s _ _ _ refl (at_err c.args.made
    (λ outcome. Stops task s (reply_of outcome)) c.in-Err.outcome c.in-Err.is stop)
