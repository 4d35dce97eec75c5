use Rattle.std.proofs.Common.{◌≡◌, ◌≤◌, ◌-◌, length, drop, List}
use Rattle.fpl_lex.specs.declared.token.Token.{Token}
use Rattle.fpl_lex.specs.Cut.{joined}
use Rattle.fpl_lex.specs.Machine.{lex_from, lex_of}
use Rattle.std.specs.Prelude.{Ok}
use Rattle.fpl_reader.proofs.tokens.lexical_fault.Given as goal

abbrev pub invariant-loop-token : goal.invariant-loop-token
invariant-loop-token l = ((ts : List Token) × (lex_of l.text ≡ joined (Ok ts) (lex_from l.at (drop l.at l.text)))) × (l.at ≤ length l.text)

abbrev pub decreases-loop-token : goal.decreases-loop-token
decreases-loop-token l = length l.text - l.at
