use Rattle.std.proofs.Common.{[], ◌≤◌, inl, inr, refl, subst, rules}
use Rattle.fpl_reply.specs.Leaves.Leaves.{front}
use Rattle.fpl_reply.proofs.Leaving.{leaves_quiet}
use Rattle.fpl_run.specs.Words.{most_limit}
use Rattle.fpl_run.specs.Read.{IsUnread}
use Rattle.fpl_run.specs.Read.PresentsNone.{input_too_long}
use Rattle.fpl_run.specs.Read.IsNoStart.{nothing_presented}
use Rattle.fpl_run.specs.Answer.AnswersCommand.{no_start}
use Rattle.fpl_run.proofs.Replies.{told_always, whole_input, passed_input, ended_inner, quiet_output}
use Rattle.fpl_run.proofs.Costs.{costs_nothing}
use Rattle.fpl_run.proofs.read.answer_command.Goals as goal

pub answer_built_in-requires-clause-rank : goal.answer_built_in-requires-clause-rank
answer_built_in-requires-clause-rank g c =
    let unread : IsUnread c.args.c.view = search rules in
    subst (λ v. c.args.c.limit ≤ most_limit v) unread c.requires.most

pub returns-then-is_unread-clause-command : goal.returns-then-is_unread-clause-command
returns-then-is_unread-clause-command g c = (ended_inner _ _ _ _ _ _ (c.answer_built_in.ensures.reply [])).1

pub returns-then-is_unread-clause-reply : goal.returns-then-is_unread-clause-reply
returns-then-is_unread-clause-reply g c = told_always _ _ (λ bytes. inr (c.answer_built_in.ensures.reply bytes))

pub returns-then-is_unread-clause-cost : goal.returns-then-is_unread-clause-cost
returns-then-is_unread-clause-cost g c = told_always _ _ c.answer_built_in.ensures.cost

pub returns-then-is_unread-clause-nothing : goal.returns-then-is_unread-clause-nothing
returns-then-is_unread-clause-nothing g c = quiet_output _ [] _ _ _ (c.answer_built_in.ensures.reply [])

pub returns-then-is_unread-clause-read : goal.returns-then-is_unread-clause-read
returns-then-is_unread-clause-read g c = λ e. absurd ((ended_inner _ _ _ _ _ _ (c.answer_built_in.ensures.reply [])).0 e)

pub returns-in-Ok-clause-command : goal.returns-in-Ok-clause-command
returns-in-Ok-clause-command g c = (ended_inner _ _ _ _ _ _ c.answer_bytes.ensures.reply).1

pub returns-in-Ok-clause-reply : goal.returns-in-Ok-clause-reply
returns-in-Ok-clause-reply g c =
    let now : IsUnread c.args.c.view → ⊥ = λ h. search rules in (
      whole_input _ _ _ _ c.in-Ok.ensures.bytes c.in-Ok.ensures.end (inr (rw c.deref.ensures.value at c.answer_bytes.ensures.reply)),
      λ silent. absurd (now silent),
    )

pub returns-in-Ok-clause-cost : goal.returns-in-Ok-clause-cost
returns-in-Ok-clause-cost g c =
    let now : IsUnread c.args.c.view → ⊥ = λ h. search rules in
    (whole_input _ _ _ _ c.in-Ok.ensures.bytes c.in-Ok.ensures.end (rw c.deref.ensures.value at c.answer_bytes.ensures.cost), λ silent. absurd (now silent))

pub returns-in-Ok-clause-nothing : goal.returns-in-Ok-clause-nothing
returns-in-Ok-clause-nothing g c = quiet_output _ _ _ _ _ c.answer_bytes.ensures.reply

pub returns-in-Ok-clause-read : goal.returns-in-Ok-clause-read
returns-in-Ok-clause-read g c = λ e. absurd ((ended_inner _ _ _ _ _ _ c.answer_bytes.ensures.reply).0 e)

pub returns-in-Ok-clause-bytes : goal.returns-in-Ok-clause-bytes
returns-in-Ok-clause-bytes g c = λ e reads. whole_input _ _ _ _ c.in-Ok.ensures.bytes c.in-Ok.ensures.end
    (rw c.deref.ensures.value at c.answer_bytes.ensures.bytes)

pub returns-in-Err-NoMemory-clause-reply : goal.returns-in-Err-NoMemory-clause-reply
returns-in-Err-NoMemory-clause-reply g c = told_always _ _ (λ bytes. inr (front (inl refl)))

pub returns-in-Err-TooLong-clause-reply : goal.returns-in-Err-TooLong-clause-reply
returns-in-Err-TooLong-clause-reply g c =
    let now : IsUnread c.args.c.view → ⊥ = λ h. search rules in (
      passed_input _ _ _ _ (c.in-Err-TooLong.ensures.too_long (search rules)) (λ bytes l. inr
          (leaves_quiet _ _ _ _ _ refl refl refl (no_start now _ (nothing_presented _ (input_too_long l))))),
      λ silent. absurd (now silent),
    )

pub returns-then-is_unread-clause-bytes : goal.returns-then-is_unread-clause-bytes
returns-then-is_unread-clause-bytes g c = λ e reads.
    let unread : IsUnread c.args.c.view = search rules in
    absurd (reads unread)

pub returns-then-is_unread-clause-end : goal.returns-then-is_unread-clause-end
returns-then-is_unread-clause-end g c = λ e.
    let unread : IsUnread c.args.c.view = search rules in
    inl unread

pub returns-in-Ok-clause-end : goal.returns-in-Ok-clause-end
returns-in-Ok-clause-end g c = λ e. inr c.in-Ok.ensures.end

pub returns-in-Err-NoMemory-clause-cost : goal.returns-in-Err-NoMemory-clause-cost
returns-in-Err-NoMemory-clause-cost g c = told_always _ _ (λ bytes. costs_nothing _ bytes _ _ _ _ refl)

pub returns-in-Err-TooLong-clause-cost : goal.returns-in-Err-TooLong-clause-cost
returns-in-Err-TooLong-clause-cost g c = told_always _ _ (λ bytes. costs_nothing _ bytes _ _ _ _ refl)

pub returns-in-Err-Fault-clause-cost : goal.returns-in-Err-Fault-clause-cost
returns-in-Err-Fault-clause-cost g c = told_always _ _ (λ bytes. costs_nothing _ bytes _ _ _ _ refl)

pub returns-in-Err-Fault-clause-reply : goal.returns-in-Err-Fault-clause-reply
returns-in-Err-Fault-clause-reply g c = told_always _ _ (λ bytes. inl refl)
