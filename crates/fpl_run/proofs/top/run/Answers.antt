use Rattle.std.proofs.Common.{◌∙◌, sym, subst}
use Rattle.fpl_run.specs.Run.{MayPut}
use Rattle.fpl_reply.proofs.Leaving.{says}
use Rattle.fpl_run.proofs.Replies.{answered}
use Rattle.fpl_run.proofs.Meaning as meaning
use Rattle.fpl_run.proofs.Maps.{maps_mean}
use Rattle.fpl_run.proofs.Whys.{whys_mean}
use Rattle.fpl_run.proofs.top.run.Goals as goal

pub returns-clause-answer : goal.returns-clause-answer
returns-clause-answer g c =
    rw c.status.ensures (answered _ _ _ _ _ _ _ _ _ c.answer_words-outcome.ensures.reply
    (says c.put_line.result _ _ _ _ _ c.put_line.ensures.whole c.put_line.ensures.part c.put_line.ensures.fault))

pub returns-clause-means : goal.returns-clause-means
returns-clause-means g c = λ e. meaning.means _ _ _ _ _ c.answer_words-outcome.ensures.bytes c.answer_words-outcome.ensures.reply (sym c.status.ensures ∙ e)

pub returns-clause-maps : goal.returns-clause-maps
returns-clause-maps g c = λ e. maps_mean _ _ _ _ _ c.answer_words-outcome.ensures.bytes c.answer_words-outcome.ensures.reply (sym c.status.ensures ∙ e)

pub returns-clause-nothing : goal.returns-clause-nothing
returns-clause-nothing g c = λ none. c.answer_words-outcome.ensures.nothing (λ d is may. none d is (subst (λ s. MayPut d.view s) (sym c.status.ensures) may))

pub returns-clause-end : goal.returns-clause-end
returns-clause-end g c = λ e. c.answer_words-outcome.ensures.end (sym c.status.ensures ∙ e)

pub returns-clause-proofs : goal.returns-clause-proofs
returns-clause-proofs g c = λ e. whys_mean _ _ _ _ _ c.answer_words-outcome.ensures.bytes c.answer_words-outcome.ensures.reply (sym c.status.ensures ∙ e)
