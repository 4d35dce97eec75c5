use Rattle.std.proofs.Common.{inl, refl, sym, subst}
use Rattle.fpl_model.specs.Sound.{IsSound}
use Rattle.fpl_sample.proofs.Sound.{type_a_is_sound}
use Rattle.fpl_run.specs.Start.{of_text}
use Rattle.fpl_reply.specs.Leaves.Leaves.{front}
use Rattle.fpl_run.proofs.Replies.{command_through, written_reads, ranked_reads}
use Rattle.fpl_run.proofs.Begun.{sample_served, sample_start}
use Rattle.fpl_run.proofs.Costs.{costs_start}
use Rattle.fpl_run.proofs.read.answer_built_in.Goals as goal

pub answer_start-requires-clause-sound : goal.answer_start-requires-clause-sound
answer_start-requires-clause-sound g c = subst IsSound (sym c.in-Ok.ensures) (type_a_is_sound c.args.c.limit c.requires.rank)

pub answer_start-requires-clause-served : goal.answer_start-requires-clause-served
answer_start-requires-clause-served g c = sample_served c.args.c c.in-Ok.presentation c.requires.unread

pub answer_start-requires-clause-plain : goal.answer_start-requires-clause-plain
answer_start-requires-clause-plain g c = λ made. ranked_reads c.args.c made c.requires.unread

pub answer_start-requires-clause-short : goal.answer_start-requires-clause-short
answer_start-requires-clause-short g c = λ made. absurd (written_reads c.args.c made c.requires.unread)

pub returns-in-Ok-clause-reply : goal.returns-in-Ok-clause-reply
returns-in-Ok-clause-reply g c = λ bytes.
    command_through c.args.c bytes (of_text c.in-Ok.presentation)
    (sample_start c.args.c bytes c.in-Ok.presentation c.requires.unread c.in-Ok.ensures) _ _ _ c.answer_start.ensures.reply

pub returns-in-Ok-clause-cost : goal.returns-in-Ok-clause-cost
returns-in-Ok-clause-cost g c = λ bytes.
    costs_start c.args.c bytes (of_text c.in-Ok.presentation) _ _ c.args.steps.now c.answer_start.new.steps
    (sample_start c.args.c bytes c.in-Ok.presentation c.requires.unread c.in-Ok.ensures)
    c.answer_start.ensures.rises c.answer_start.ensures.cost c.answer_start.ensures.paced

pub returns-in-Err-clause-reply : goal.returns-in-Err-clause-reply
returns-in-Err-clause-reply g c = λ bytes. front (inl refl)
