use Rattle.std.proofs.Common.{◌≡◌, inl, refl, ap, subst}
use Rattle.std.specs.Prelude.{IfOk, IfErr}
use Rattle.fpl_walk.specs.Stops.{PlainRun}
use Rattle.fpl_reply.specs.Reply.{done}
use Rattle.fpl_reply.specs.Outcome.{reply_of}
use Rattle.fpl_reply.specs.Leaves.Leaves.{front}
use Rattle.fpl_run.specs.declared.task.Way.TheVariants.{Rank}
use Rattle.fpl_run.specs.Task.{task_for}
use Rattle.fpl_run.specs.Start.{Start, with_matrices}
use Rattle.fpl_run.specs.Answer.{AnswersTask}
use Rattle.fpl_run.specs.Begin.{start_in, start_from, Stops}
use Rattle.fpl_run.proofs.Replies.{start_through}
use Rattle.fpl_run.proofs.map.answer_ranks.Goals as goal

pub returns-in-Ok-clause-reply : goal.returns-in-Ok-clause-reply
returns-in-Ok-clause-reply g c =
    let s = start_in c.args.begin c.args.stored.now in
    let same : start_from c.in-Ok.run' c.args.stored.now ≡ s = ap (λ (x : PlainRun). start_from x c.args.stored.now) c.in-Ok.ensures in
    start_through c.args.c (with_matrices c.args.a.now s) Rank c.requires.way _ _ _
    (c.put_made.ensures.reply (task_for c.args.c Rank) (with_matrices c.args.a.now s)
    (subst (λ (x : Start). IfOk c.rank_through.result (λ text. AnswersTask (task_for c.args.c Rank) (with_matrices c.args.a.now x) (done text.items))) same
    c.rank_through.ensures.text)
    (subst (λ (x : Start). IfErr c.rank_through.result (λ outcome. Stops (task_for c.args.c Rank) (with_matrices c.args.a.now x) (reply_of outcome))) same
    c.rank_through.ensures.stop))

pub returns-in-Err-clause-reply : goal.returns-in-Err-clause-reply
returns-in-Err-clause-reply g c = front (inl refl)
