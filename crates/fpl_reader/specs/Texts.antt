-- What stands in a text without lexical faults.
--
--   text_tokens   its tokens
--   text_terminals  their terminals
--   text_events   what stands in it, in order, where it is a sentence
use Rattle.std.specs.Prelude.{ℕ, List}
use Rattle.fpl_lex.specs.declared.token.Token.{Token}
use Rattle.fpl_syntax.specs.declared.terminal.Terminal.{Terminal}
use Rattle.fpl_reader.specs.declared.survey.Event.{Event}
use Rattle.fpl_reader.specs.Stream.{tokens_left}
use Rattle.fpl_reader.specs.Terminals.{terminals_of}
use Rattle.fpl_reader.specs.Scan.{scan_of}

abbrev pub text_tokens : List ℕ → List Token
text_tokens text = tokens_left text 0

abbrev pub text_terminals : List ℕ → List Terminal
text_terminals text = terminals_of text (text_tokens text)

abbrev pub text_events : List ℕ → List Event
text_events text = scan_of (text_terminals text)
