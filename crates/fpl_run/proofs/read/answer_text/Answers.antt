use Rattle.std.proofs.Common.{◌≤◌, length, inl, refl, subst, arith}
use Rattle.fpl_run.specs.Separator.{IsTextOf}
use Rattle.plain_texts.proofs.Texts.{canonical_short}
use Rattle.fpl_run.specs.Read.{most_text}
use Rattle.fpl_run.specs.Read.Presents.{from_text}
use Rattle.fpl_run.specs.Read.PresentsNone.{text_too_long, no_presentation}
use Rattle.fpl_run.specs.Read.IsNoStart.{nothing_presented}
use Rattle.fpl_run.specs.Answer.AnswersCommand.{no_start}
use Rattle.fpl_reply.specs.Leaves.Leaves.{front}
use Rattle.fpl_reply.proofs.Leaving.{leaves_quiet}
use Rattle.fpl_run.proofs.read.answer_text.Goals as goal

pub answer_presented-requires-clause-short : goal.answer_presented-requires-clause-short
answer_presented-requires-clause-short g c = λ way.
    let shorter = c.text_of.ensures.short in
    omega (arith, shorter, canonical_short c.text_of.result.now c.in-Ok.presentation c.in-Ok.ensures.read)

pub answer_presented-requires-clause-presents : goal.answer_presented-requires-clause-presents
answer_presented-requires-clause-presents g c =
    let short : length c.args.bytes.now ≤ most_text = omega arith in
    from_text c.requires.read short c.requires.plain c.text_of.result.now
    (subst (λ way. IsTextOf way c.args.bytes.now c.text_of.result.now) c.way_of.ensures c.text_of.ensures.text) c.in-Ok.presentation c.in-Ok.ensures.read

pub returns-then-bytes-gt-MOST_TEXT-clause-reply : goal.returns-then-bytes-gt-MOST_TEXT-clause-reply
returns-then-bytes-gt-MOST_TEXT-clause-reply g c =
    leaves_quiet _ _ _ _ _ refl refl refl
    (no_start c.requires.read _ (nothing_presented _ (text_too_long c.requires.short c.requires.plain (omega arith))))

pub returns-in-Err-Refused-clause-reply : goal.returns-in-Err-Refused-clause-reply
returns-in-Err-Refused-clause-reply g c =
    let short : length c.args.bytes.now ≤ most_text = omega arith in
    rw c.in-Err-Refused.field-0-is
    (leaves_quiet _ _ _ _ _ refl refl refl (no_start c.requires.read _ (nothing_presented _
    (no_presentation short c.requires.plain c.text_of.result.now
    (subst (λ way. IsTextOf way c.args.bytes.now c.text_of.result.now) c.way_of.ensures c.text_of.ensures.text) _ _
    (rw c.in-Err-Refused.field-0-is at c.in-Err-Refused.ensures.read)))))

pub returns-in-Err-NoMemory-clause-reply : goal.returns-in-Err-NoMemory-clause-reply
returns-in-Err-NoMemory-clause-reply g c = front (inl refl)
