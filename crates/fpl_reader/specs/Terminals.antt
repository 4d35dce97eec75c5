-- The terminals of a text.
--
--   word_terminal text t   the terminal of a word: that of a reserved word, or a name
--   mark_terminal b        the terminal of a mark
--   terminal_of text t     the terminal of a token
--   terminals_of text ts   the terminals of tokens
use Rattle.std.specs.Prelude.{ℕ, ◌==◌, List, map, codes, if◌then◌else◌}
use Rattle.std.specs.Str.{bytes_eq}
use Rattle.fpl_lex.specs.declared.token.Token.{Token}
use Rattle.fpl_lex.specs.declared.token.TokenKind.{TokenKind}
use Rattle.fpl_lex.specs.declared.token.TokenKind.TheVariants as kinds
use Rattle.fpl_model.specs.declared.presentation.Parity.TheVariants.{Even, Odd}
use Rattle.fpl_syntax.specs.declared.terminal.Terminal.{Terminal}
use Rattle.fpl_syntax.specs.declared.terminal.Terminal.TheVariants as mark
use Rattle.fpl_syntax.specs.declared.terminal.ClaimKind.TheVariants as claim
use Rattle.fpl_syntax.specs.Sight.{word_of}

abbrev pub word_terminal : List ℕ → ℕ → ℕ → Terminal
word_terminal word start end =
    if bytes_eq word (codes "field") then mark.Field start else
    if bytes_eq word (codes "even") then mark.Declare Even else
    if bytes_eq word (codes "odd") then mark.Declare Odd else
    if bytes_eq word (codes "relation") then mark.Claim claim.Relation start else
    if bytes_eq word (codes "ideal") then mark.Claim claim.Ideal start else
    if bytes_eq word (codes "equal") then mark.Claim claim.Equal start else
    mark.Name (record { start = start; end = end; rationals = bytes_eq word (codes "Q") })

abbrev pub mark_terminal : ℕ → Terminal
mark_terminal b =
    if b == 59 then mark.Semicolon else
    if b == 44 then mark.Comma else
    if b == 58 then mark.Colon else
    if b == 61 then mark.Equals else
    if b == 43 then mark.Plus else
    if b == 45 then mark.Minus else
    if b == 42 then mark.Star else
    if b == 47 then mark.Slash else
    if b == 91 then mark.OpenBracket else
    if b == 93 then mark.CloseBracket else
    if b == 40 then mark.OpenGroup else mark.CloseGroup

abbrev pub kind_terminal : List ℕ → ℕ → ℕ → TokenKind → Terminal
kind_terminal text start end kinds.Word = word_terminal (word_of text start end) start end
kind_terminal text start end (kinds.Number n) = mark.Number (record { place = start; value = n })
kind_terminal text start end (kinds.Mark b) = mark_terminal b

unfoldable pub terminal_of : List ℕ → Token → Terminal
terminal_of text t = kind_terminal text t.start t.end t.kind

abbrev pub terminals_of : List ℕ → List Token → List Terminal
terminals_of text ts = map (terminal_of text) ts
