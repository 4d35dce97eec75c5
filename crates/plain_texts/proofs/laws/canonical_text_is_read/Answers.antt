use Rattle.std.proofs.Common.{◌≡◌, refl}
use Rattle.std.specs.Prelude.{Result, Ok, Err, IfOk, IfErr}
use Rattle.fpl_model.specs.declared.presentation.Presentation.{Presentation}
use Rattle.fpl_model.specs.Sound.{IsSound}
use Rattle.fpl_reader.specs.declared.fault.ReaderError.{ReaderError}
use Rattle.fpl_reader.specs.declared.fault.ReaderError.TheVariants.{Refused, NoMemory}
use Rattle.fpl_reader.specs.Reading.{Read}
use Rattle.fpl_reader.proofs.OneAnswer.{one_presentation, not_both}
use Rattle.fpl_canonical.specs.Canonical.{canonical_of}
use Rattle.plain_texts.proofs.CanonicalTexts.{has_presentation}
use Rattle.plain_texts.proofs.laws.canonical_text_is_read.Goals as goal

pub returns-clause-presentation : goal.returns-clause-presentation
returns-clause-presentation c = has_presentation

only_answer : (p : Presentation) (answer : Result Presentation ReaderError) → IsSound p → Read (canonical_of p) answer →
    IfOk answer (λ q. q ≡ p) × IfErr answer (λ e. e ≡ NoMemory)
only_answer p (Ok q) sound read = (one_presentation (canonical_of p) q p read (has_presentation p sound), tt)
only_answer p (Err (Refused place why)) sound read = absurd (not_both (canonical_of p) p place why (has_presentation p sound) read)
only_answer p (Err NoMemory) sound read = (tt, refl)

pub returns-clause-answer : goal.returns-clause-answer
returns-clause-answer c = only_answer
