-- What the parts of `read` answer.
--
--   bare_of text           the presentation of a text's field and generators alone
--   IsLexicalRefusal e r   a lexical fault, as an error
--   IsRefusal text r       an error is a refusal of the text, unless it is want of memory
use Rattle.std.specs.Prelude.{◌≡◌, ℕ, List, [], map, Some}
use Rattle.fpl_model.specs.declared.presentation.Presentation.{Presentation}
use Rattle.fpl_lex.specs.declared.fault.LexError.{LexError}
use Rattle.fpl_reader.specs.declared.fault.ReaderError.{ReaderError}
use Rattle.fpl_reader.specs.declared.fault.ReaderError.TheVariants.{Refused, NoMemory}
use Rattle.fpl_reader.specs.Events.{fields_in, declared_in}
use Rattle.fpl_reader.specs.Texts.{text_events}
use Rattle.fpl_reader.specs.Reading.{kind_of, generator_of, with_claims, lexical_refusal, IsRefused}

abbrev pub bare_of : List ℕ → Presentation
bare_of text = with_claims (kind_of (fields_in (text_events text))) (map (generator_of text) (declared_in (text_events text))) []

abbrev pub IsLexicalRefusal : LexError → ReaderError → Type 0
IsLexicalRefusal e (Refused place why) = lexical_refusal e ≡ Some (place, why)
IsLexicalRefusal e NoMemory = Unit {0}

abbrev pub IsRefusal : List ℕ → ReaderError → Type 0
IsRefusal text (Refused place why) = IsRefused text place why
IsRefusal text NoMemory = Unit {0}
