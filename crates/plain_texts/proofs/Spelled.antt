-- A text spells terminals from a place on: its pieces, their tokens, and the terminals of these.
use Rattle.std.proofs.Common.{◌≡◌, ℕ, ◌+◌, ◌-◌, ◌≤◌, List, [], ◌∷◌, ◌++◌, length, Bool, nat_lt, IsTrue, if◌then◌else◌, refl, ap, ap₂, sym, ◌∙◌, arith, append_assoc, length-append}
use Rattle.std.specs.Prelude.{Ok, Err, None, Some, decimal}
use Rattle.std.specs.List.{list_all}
use Rattle.std.proofs.lemmas.Bool.{le-ltb, false≢true, and_parts}
use Rattle.fpl_alphabet.specs.Bytes.{is_blank, is_letter, is_digit, is_word_byte, is_mark, is_word, most_name}
use Rattle.fpl_lex.specs.declared.token.Token.{Token}
use Rattle.fpl_lex.specs.declared.token.TokenKind.{TokenKind}
use Rattle.fpl_lex.specs.declared.token.TokenKind.TheVariants as kinds
use Rattle.fpl_lex.specs.declared.fault.LexError.TheVariants.{NameTooLong, NumberTooLarge}
use Rattle.fpl_lex.specs.Cut.{Form, blank, word, number, mark, Piece, Stops, IsPiece, IsCut, value_of, token_at, piece_tokens, joined, reading_from}
use Rattle.fpl_numbers.specs.Numbers.{most_number}
use Rattle.fpl_syntax.specs.declared.terminal.Terminal.{Terminal}
use Rattle.fpl_syntax.specs.declared.terminal.Terminal.TheVariants as terminal
use Rattle.fpl_syntax.specs.Sight.{word_of}
use Rattle.fpl_reader.specs.Terminals.{word_terminal, mark_terminal, kind_terminal, terminal_of, terminals_of}
use Rattle.fpl_reader.specs.Reading.{opens, closes, too_deep}
use Rattle.fpl_reader.proofs.Words.{piece_bytes}
use Rattle.plain_texts.proofs.Decimals.{decimal_piece, decimal_value}

-- no token passes the greatest depth, where so many marks are open before them
abbrev pub IsShallow : ℕ → List Token → Type 0
IsShallow held tokens = (o c : ℕ) → o ≡ c + held → too_deep o c tokens ≡ None

module _ (text : List ℕ) where
  -- this is what is left of the text from some place on
  pub record IsLeft (rest : List ℕ) : Type 0 where
    pub before : List ℕ
    pub whole : text ≡ before ++ rest

  abbrev pub place : List ℕ → ℕ
  place rest = length text - length rest

  pub later : (bytes after : List ℕ) → IsLeft (bytes ++ after) → IsLeft after
  later bytes after e = record { before = e.before ++ bytes; whole = e.whole ∙ sym (append_assoc e.before bytes after) }

  place_is : (rest : List ℕ) (e : IsLeft rest) → place rest ≡ length e.before
  place_is rest e = let l : length text ≡ length (e.before ++ rest) = ap length e.whole in omega (arith, length-append e.before rest)

  pub place_later : (bytes after : List ℕ) → IsLeft (bytes ++ after) → place (bytes ++ after) + length bytes ≡ place after
  place_later bytes after e =
      let l : length text ≡ length (e.before ++ (bytes ++ after)) = ap length e.whole in
      omega (arith, length-append e.before (bytes ++ after), length-append bytes after)

  pub bytes_there : (bytes after : List ℕ) → IsLeft (bytes ++ after) → word_of text (place (bytes ++ after)) (place (bytes ++ after) + length bytes) ≡ bytes
  bytes_there bytes after e =
      ap (λ n. word_of text n (n + length bytes)) (place_is (bytes ++ after) e)
      ∙ ap (λ t. word_of t (length e.before) (length e.before + length bytes)) e.whole
      ∙ piece_bytes e.before bytes after

  -- the rest of the text spells these terminals, where so many marks are open before it
  pub record Spells (held : ℕ) (rest : List ℕ) (terminals : List Terminal) : Type 0 where
    pub pieces : List Piece
    pub tokens : List Token
    pub cut : IsCut rest pieces
    pub read : reading_from (place rest) pieces ≡ Ok tokens
    pub said : terminals_of text tokens ≡ terminals
    pub shallow : IsShallow held tokens

  pub spells_end : (held : ℕ) → Spells held [] []
  spells_end held = record { pieces = []; tokens = []; cut = refl; read = refl; said = refl; shallow = λ o c e. refl }

  read_later : (bytes after : List ℕ) (pieces : List Piece) (tokens : List Token) → IsLeft (bytes ++ after) →
      reading_from (place after) pieces ≡ Ok tokens → reading_from (place (bytes ++ after) + length bytes) pieces ≡ Ok tokens
  read_later bytes after pieces tokens e read = ap (λ n. reading_from n pieces) (place_later bytes after e) ∙ read

  pub spells_blank : (held b : ℕ) (after : List ℕ) (terminals : List Terminal) → IsTrue (is_blank b) → IsLeft (b ∷ after) →
      Spells held after terminals → Spells held (b ∷ after) terminals
  spells_blank held b after terminals is e s = record {
    pieces = record { form = blank; bytes = b ∷ [] } ∷ s.pieces;
    tokens = s.tokens;
    cut = (after, refl, is, s.cut);
    read = ap (joined (Ok [])) (read_later (b ∷ []) after s.pieces s.tokens e s.read);
    said = s.said;
    shallow = s.shallow;
  }

  deeper : (held next : ℕ) (t : Token) (ts : List Token) → held + opens t.kind ≡ next + closes t.kind → next ≤ 64 → IsShallow next ts → IsShallow held (t ∷ ts)
  deeper held next t ts same few shallow o c e =
      ap (λ (b : Bool). if b then Some t.start else too_deep (o + opens t.kind) (c + closes t.kind) ts)
      (le-ltb (c + closes t.kind + 64) (o + opens t.kind) (omega arith))
      ∙ shallow (o + opens t.kind) (c + closes t.kind) (omega arith)

  -- a piece that is a token
  spells_token : (held next : ℕ) (form : Form) (kind : TokenKind) (bytes after : List ℕ) (new : Terminal) (terminals : List Terminal)
      → IsPiece form bytes after → piece_tokens (place (bytes ++ after)) form bytes ≡ Ok (token_at (place (bytes ++ after)) bytes kind ∷ [])
      → kind_terminal text (place (bytes ++ after)) (place (bytes ++ after) + length bytes) kind ≡ new
      → held + opens kind ≡ next + closes kind → next ≤ 64
      → IsLeft (bytes ++ after) → Spells next after terminals → Spells held (bytes ++ after) (new ∷ terminals)
  unfolding terminal_of
  spells_token held next form kind bytes after new terminals piece token is same few e s = record {
    pieces = record { form = form; bytes = bytes } ∷ s.pieces;
    tokens = token_at (place (bytes ++ after)) bytes kind ∷ s.tokens;
    cut = (after, refl, piece, s.cut);
    read = ap₂ joined token (read_later bytes after s.pieces s.tokens e s.read);
    said = ap₂ (λ x xs. x ∷ xs) is s.said;
    shallow = deeper held next (token_at (place (bytes ++ after)) bytes kind) s.tokens same few s.shallow;
  }

  word_is : (w after : List ℕ) → IsTrue (is_word w) → Stops is_word_byte after → IsPiece word w after
  word_is [] after e stops = absurd (false≢true e)
  word_is (b ∷ bs) after e stops = let s = and_parts (is_letter b) (list_all is_word_byte bs) e in (s.0, s.1, stops)

  word_fits : (at : ℕ) (w : List ℕ) → length w ≤ most_name → piece_tokens at word w ≡ Ok (token_at at w kinds.Word ∷ [])
  word_fits at w few = ap (λ (b : Bool). if b then Err (NameTooLong at) else Ok (token_at at w kinds.Word ∷ [])) (le-ltb most_name (length w) few)

  pub spells_word : (held : ℕ) (w after : List ℕ) (terminals : List Terminal) → IsTrue (is_word w) → length w ≤ most_name → Stops is_word_byte after →
      held ≤ 64 → IsLeft (w ++ after)
      → Spells held after terminals → Spells held (w ++ after) (word_terminal w (place (w ++ after)) (place (w ++ after) + length w) ∷ terminals)
  spells_word held w after terminals is few stops depth e s =
      spells_token held held word kinds.Word w after _ terminals (word_is w after is stops) (word_fits (place (w ++ after)) w few)
      (ap (λ b. word_terminal b (place (w ++ after)) (place (w ++ after) + length w)) (bytes_there w after e)) refl depth e s

  number_fits : (at : ℕ) (ds : List ℕ) (n : ℕ) → value_of ds ≡ n → n ≤ most_number → piece_tokens at number ds ≡ Ok (token_at at ds (kinds.Number n) ∷ [])
  number_fits at ds n is few =
      ap (λ v. if nat_lt most_number v then Err (NumberTooLarge at) else Ok (token_at at ds (kinds.Number v) ∷ [])) is
      ∙ ap (λ (b : Bool). if b then Err (NumberTooLarge at) else Ok (token_at at ds (kinds.Number n) ∷ [])) (le-ltb most_number n few)

  pub spells_number : (held n : ℕ) (after : List ℕ) (terminals : List Terminal) → n ≤ most_number → Stops is_digit after → held ≤ 64 →
      IsLeft (decimal n ++ after)
      → Spells held after terminals → Spells held (decimal n ++ after) (terminal.Number (record { place = place (decimal n ++ after); value = n }) ∷ terminals)
  spells_number held n after terminals few stops depth e s =
      spells_token held held number (kinds.Number n) (decimal n) after _ terminals (decimal_piece n after few stops)
      (number_fits (place (decimal n ++ after)) (decimal n) n (decimal_value n few) few) refl refl depth e s

  -- a mark, with so many marks open after it
  pub spells_mark : (held next b : ℕ) (after : List ℕ) (terminals : List Terminal) → IsTrue (is_mark b) →
      held + opens (kinds.Mark b) ≡ next + closes (kinds.Mark b) → next ≤ 64
      → IsLeft (b ∷ after) → Spells next after terminals → Spells held (b ∷ after) (mark_terminal b ∷ terminals)
  spells_mark held next b after terminals is same depth e s = spells_token held next mark (kinds.Mark b) (b ∷ []) after _ terminals is refl refl same depth e s
