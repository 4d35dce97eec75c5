-- The tokens of a text from a place on.
--
--   tokens_or_none   the tokens of an answer, and none where it is a fault
--   tokens_left      the tokens from this place on
--   IsLexable        they have no fault
use Rattle.std.specs.Prelude.{ℕ, List, [], drop, Result, Ok, Err, IsOk}
use Rattle.fpl_lex.specs.declared.token.Token.{Token}
use Rattle.fpl_lex.specs.declared.fault.LexError.{LexError}
use Rattle.fpl_lex.specs.Machine.{lex_from}

abbrev pub tokens_or_none : Result (List Token) LexError → List Token
tokens_or_none (Ok ts) = ts
tokens_or_none (Err e) = []

abbrev pub tokens_left : List ℕ → ℕ → List Token
tokens_left text at = tokens_or_none (lex_from at (drop at text))

abbrev pub IsLexable : List ℕ → ℕ → Type 0
IsLexable text at = IsOk (lex_from at (drop at text))
