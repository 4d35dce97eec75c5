-- The view `envelope`.
--   or_limit found text: too many words, where there are; else the text
--   text_of_envelope entries T: the text of the ordered words and the products of T; or, where the words of the weights 1 to some weight of T number more than
--   entries, the least such weight with their number
use Rattle.std.specs.Prelude.{ℕ, List, Option, Some, None, Result, Ok, Err}
use Rattle.plain_envelope.specs.Listing.{word_limit}
use Rattle.fpl_table.specs.Plain.{PlainTable, table_in}
use Rattle.fpl_envelope_text.specs.Plain.{envelope_text}
use Rattle.fpl_reply.specs.declared.view_fault.ViewFault.{ViewFault}
use Rattle.fpl_reply.specs.declared.view_fault.ViewFault.TheVariants.{TooManyWords}

abbrev pub or_limit : Option (ℕ × ℕ) → List ℕ → Result (List ℕ) ViewFault
or_limit None text = Ok text
or_limit (Some found) text = Err (TooManyWords found.0 found.1)

abbrev pub text_of_envelope : (entries : ℕ) → PlainTable → Result (List ℕ) ViewFault
text_of_envelope entries T = or_limit (word_limit (table_in T.kind T) entries T.weight) (envelope_text T)
