use Rattle.std.proofs.Common.{◌≡◌, ◌+◌, ◌≤◌, ℕ, length}
use Rattle.fpl_syntax.specs.Machine.{parse_from, parse_of}
use Rattle.fpl_syntax.specs.Sight.{sight}
use Rattle.fpl_reader.specs.Terminals.{terminals_of}
use Rattle.fpl_reader.specs.Texts.{text_tokens, text_terminals}
use Rattle.fpl_reader.specs.Reading.{place_of}
use Rattle.fpl_reader.proofs.sentence.parse_text.Given as goal

abbrev pub invariant-loop-token : goal.invariant-loop-token
invariant-loop-token l =
    (parse_of (sight l.scope) (text_terminals l.scope.text.now) ≡ parse_from (sight l.scope) l.claims.items l.state l.k
    (terminals_of l.scope.text.now l.stream))
    × ((j : ℕ) → place_of l.scope.text.now (l.k + j) (text_tokens l.scope.text.now) ≡ place_of l.scope.text.now (j + 1) l.stream)
    × (l.k + length l.stream ≡ 1 + length (text_tokens l.scope.text.now))
    × (1 ≤ l.k)

abbrev pub decreases-loop-token : goal.decreases-loop-token
decreases-loop-token l = length l.stream
