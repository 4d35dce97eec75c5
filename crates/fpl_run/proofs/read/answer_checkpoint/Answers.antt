use Rattle.std.proofs.Common.{inl, refl}
use Rattle.fpl_run.specs.Read.Presents.{from_head}
use Rattle.fpl_run.specs.Read.PresentsNone.{no_head}
use Rattle.fpl_run.specs.Read.IsNoStart.{nothing_presented}
use Rattle.fpl_run.specs.Answer.AnswersCommand.{no_start}
use Rattle.fpl_reply.specs.Leaves.Leaves.{front}
use Rattle.fpl_reply.proofs.Leaving.{leaves_quiet}
use Rattle.fpl_run.proofs.read.answer_checkpoint.Goals as goal

pub answer_presented-requires-clause-presents : goal.answer_presented-requires-clause-presents
answer_presented-requires-clause-presents g c =
    from_head c.requires.read c.requires.short c.requires.checkpoint c.in-Ok.head c.in-Ok.ensures.head

pub returns-in-Err-Bad-clause-reply : goal.returns-in-Err-Bad-clause-reply
returns-in-Err-Bad-clause-reply g c =
    rw c.in-Err-Bad.field-0-is
    (leaves_quiet _ _ _ _ _ refl refl refl (no_start c.requires.read _ (nothing_presented _ (no_head c.requires.short c.requires.checkpoint _
    (rw c.in-Err-Bad.field-0-is at c.in-Err-Bad.ensures.head)))))

pub returns-in-Err-NoMemory-clause-reply : goal.returns-in-Err-NoMemory-clause-reply
returns-in-Err-NoMemory-clause-reply g c = front (inl refl)
