-- What parsing a text answers.
--
--   FailsAt   an error is the refusal of the first token that doesn't fit, unless it is want of memory
use Rattle.std.specs.Prelude.{◌≡◌, ℕ, List, Result, Err}
use Rattle.fpl_syntax.specs.declared.parser.Claim.{Claim}
use Rattle.fpl_reader.specs.declared.fault.Reason.TheVariants as reason
use Rattle.fpl_reader.specs.declared.fault.ReaderError.{ReaderError}
use Rattle.fpl_reader.specs.declared.fault.ReaderError.TheVariants.{Refused, NoMemory}
use Rattle.fpl_reader.specs.Reading.{place_of}
use Rattle.fpl_reader.specs.Texts.{text_tokens}

abbrev pub FailsAt : List ℕ → ReaderError → Result (List Claim) ℕ → Type 0
FailsAt text (Refused place why) answer = (k : ℕ) × (answer ≡ Err k) × (place ≡ place_of text k (text_tokens text)) × (why ≡ reason.Syntax k)
FailsAt text NoMemory answer = Unit {0}
