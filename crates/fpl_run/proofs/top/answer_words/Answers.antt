use Rattle.std.proofs.Common.{inl, inr, refl}
use Rattle.fpl_reply.proofs.Leaving.{leaves_quiet}
use Rattle.fpl_run.specs.declared.words.Command.{Command}
use Rattle.fpl_run.specs.Words.{spelled, IsCommand}
use Rattle.fpl_run.specs.Run.{Spends}
use Rattle.fpl_run.specs.Answer.Answers.{no_command}
use Rattle.fpl_run.proofs.Replies.{told_always, command_reply}
use Rattle.fpl_run.proofs.Costs.{costs_command}
use Rattle.fpl_run.proofs.top.answer_words.Goals as goal

pub answer_command-requires-clause-most : goal.answer_command-requires-clause-most
answer_command-requires-clause-most g c = c.in-Some.ensures.some.most

pub returns-in-Some-clause-usage : goal.returns-in-Some-clause-usage
returns-in-Some-clause-usage g c = ((λ e. absurd (c.answer_command.ensures.command e)), (λ none. absurd (none c.in-Some.c c.in-Some.ensures.some)))

pub returns-in-None-clause-reply : goal.returns-in-None-clause-reply
returns-in-None-clause-reply g c = told_always _ _ (λ bytes. inr (leaves_quiet _ _ _ _ _ refl refl refl (no_command c.in-None.ensures.none)))

pub returns-in-Some-clause-reply : goal.returns-in-Some-clause-reply
returns-in-Some-clause-reply g c = command_reply _ c.in-Some.c c.in-Some.ensures.some c.in-Some.ensures.one _ _ _ _ c.answer_command.ensures.reply

pub returns-in-Some-clause-nothing : goal.returns-in-Some-clause-nothing
returns-in-Some-clause-nothing g c = λ none. c.answer_command.ensures.nothing (none c.in-Some.c c.in-Some.ensures.some)

pub returns-in-Some-clause-cost : goal.returns-in-Some-clause-cost
returns-in-Some-clause-cost g c = costs_command _ c.in-Some.c c.in-Some.ensures.some c.in-Some.ensures.one _ _ _ _ _ c.answer_command.ensures.cost

pub returns-in-None-clause-cost : goal.returns-in-None-clause-cost
returns-in-None-clause-cost g c =
    told_always _ (λ bytes. (d : Command) → IsCommand (spelled c.args.words.now.items) d →
    Spends d bytes (g.O.Sink.taken c.args.out.now) (g.O.Sink.taken c.args.out.now) c.args.steps.now c.args.steps.now)
    (λ bytes d is. absurd (c.in-None.ensures.none d is))

pub returns-in-Some-clause-bytes : goal.returns-in-Some-clause-bytes
returns-in-Some-clause-bytes g c = λ e reads. c.answer_command.ensures.bytes e (λ unread. reads (inr (c.in-Some.c, c.in-Some.ensures.some, unread)))

pub returns-in-Some-clause-end : goal.returns-in-Some-clause-end
returns-in-Some-clause-end g c = λ e. elim (c.answer_command.ensures.end e) [
  | inl unread ↦ inl (inr (c.in-Some.c, c.in-Some.ensures.some, unread))
  | inr over ↦ inr over
]
