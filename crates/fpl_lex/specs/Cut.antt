-- The tokens of a text, apart from how they are found.
--
--   Form            the forms of a piece: a blank, a comment, a word, a number, a mark, or a byte that begins none of these
--   Piece           a piece of a text: its form and its bytes
--   Stops p after   nothing comes after, or a byte outside p
--   begins b        whether a byte begins a blank, a comment or a token
--   IsPiece         these bytes, with those after them, are a piece of this form, as long as possible
--   IsCut           the text is these pieces, cut from left to right
--   value_of        the value of decimal digits
--   piece_tokens    the token that a piece at this place is, none for a blank or a comment, or its fault
--   reading_from    the tokens of the pieces, the first of which stands at this place, or the first fault from the left
--   Reads           the text, cut into its pieces, has this reading
--   Lexed           what `tokens` answers: the reading of the text, unless memory runs out
use Rattle.std.specs.Prelude.{◌≡◌, ℕ, ◌+◌, ◌-◌, ◌*◌, ◌^◌, List, [], ◌∷◌, ◌++◌, length, Bool, true, false, ◌||◌, ◌==◌, nat_lt, IsTrue, Result, Ok, Err, if◌then◌else◌}
use Rattle.std.specs.List.{list_all}
use Rattle.fpl_alphabet.specs.Bytes.{is_blank, is_letter, is_digit, is_word_byte, is_mark, most_name}
use Rattle.fpl_lex.specs.declared.token.Token.{Token}
use Rattle.fpl_lex.specs.declared.token.TokenKind.{TokenKind}
use Rattle.fpl_lex.specs.declared.token.TokenKind.TheVariants as kinds
use Rattle.fpl_lex.specs.declared.fault.LexError.{LexError}
use Rattle.fpl_lex.specs.declared.fault.LexError.TheVariants.{BadByte, NumberTooLarge, NameTooLong, NoMemory}
use Rattle.fpl_numbers.specs.Numbers.{most_number}

pub data Form : Type 0 where
  blank : Form
  comment : Form
  word : Form
  number : Form
  mark : Form
  other : Form

pub record Piece : Type 0 where
  pub form : Form
  pub bytes : List ℕ

abbrev pub Stops : (ℕ → Bool) → List ℕ → Type 0
Stops p [] = Unit {0}
Stops p (b ∷ bs) = p b ≡ false

abbrev pub is_in_comment : ℕ → Bool
is_in_comment b = if b == 10 then false else true

abbrev pub begins : ℕ → Bool
begins b = is_blank b || b == 35 || is_letter b || is_digit b || is_mark b

abbrev pub IsPiece : Form → List ℕ → List ℕ → Type 0
IsPiece blank (b ∷ []) after = IsTrue (is_blank b)
IsPiece comment (b ∷ bs) after = (b ≡ 35) × IsTrue (list_all is_in_comment bs) × Stops is_in_comment after
IsPiece word (b ∷ bs) after = IsTrue (is_letter b) × IsTrue (list_all is_word_byte bs) × Stops is_word_byte after
IsPiece number (b ∷ bs) after = IsTrue (is_digit b) × IsTrue (list_all is_digit bs) × Stops is_digit after
IsPiece mark (b ∷ []) after = IsTrue (is_mark b)
IsPiece other (b ∷ []) after = begins b ≡ false
IsPiece _ _ _ = ⊥

abbrev pub IsCut : List ℕ → List Piece → Type 0
IsCut text [] = text ≡ []
IsCut text (p ∷ ps) = (after : List ℕ) × (text ≡ p.bytes ++ after) × IsPiece p.form p.bytes after × IsCut after ps

-- the value of more digits after a number
abbrev pub value_from : ℕ → List ℕ → ℕ
value_from n [] = n
value_from n (b ∷ bs) = value_from (10 * n + (b - 48)) bs

abbrev pub value_of : List ℕ → ℕ
value_of digits = value_from 0 digits

-- a token at this place, of these bytes
abbrev pub token_at : ℕ → List ℕ → TokenKind → Token
token_at at bytes kind = record { start = at; end = at + length bytes; kind = kind }

abbrev pub mark_tokens : ℕ → List ℕ → List Token
mark_tokens at [] = []
mark_tokens at (b ∷ bs) = token_at at (b ∷ bs) (kinds.Mark b) ∷ []

abbrev pub piece_tokens : ℕ → Form → List ℕ → Result (List Token) LexError
piece_tokens at blank bytes = Ok []
piece_tokens at comment bytes = Ok []
piece_tokens at word bytes = if nat_lt most_name (length bytes) then Err (NameTooLong at) else Ok (token_at at bytes kinds.Word ∷ [])
piece_tokens at number bytes = if nat_lt most_number (value_of bytes) then Err (NumberTooLarge at) else
    Ok (token_at at bytes (kinds.Number (value_of bytes)) ∷ [])
piece_tokens at mark bytes = Ok (mark_tokens at bytes)
piece_tokens at other bytes = Err (BadByte at)

-- tokens and then what the rest of the text gives, or the fault that comes first
abbrev pub joined : Result (List Token) LexError → Result (List Token) LexError → Result (List Token) LexError
joined (Err e) rest = Err e
joined (Ok ts) (Err e) = Err e
joined (Ok ts) (Ok more) = Ok (ts ++ more)

abbrev pub reading_from : ℕ → List Piece → Result (List Token) LexError
reading_from at [] = Ok []
reading_from at (p ∷ ps) = joined (piece_tokens at p.form p.bytes) (reading_from (at + length p.bytes) ps)

pub record Reads (text : List ℕ) (answer : Result (List Token) LexError) : Type 0 where
  pub pieces : List Piece
  pub cut : IsCut text pieces
  pub read : reading_from 0 pieces ≡ answer

abbrev pub Lexed : List ℕ → Result (List Token) LexError → Type 0
Lexed text (Ok ts) = Reads text (Ok ts)
Lexed text (Err (BadByte place)) = Reads text (Err (BadByte place))
Lexed text (Err (NumberTooLarge place)) = Reads text (Err (NumberTooLarge place))
Lexed text (Err (NameTooLong place)) = Reads text (Err (NameTooLong place))
Lexed text (Err NoMemory) = Unit {0}
