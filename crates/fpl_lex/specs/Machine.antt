-- The machine that finds the tokens, one byte after another.
--
--   class_of      the class of a byte
--   finished      the token that ends before this place, if one does
--   begun         the token that a byte at this place is, if it is one, and the mode after it
--   after         tokens before those of a step
--   with_digit    a number with one more digit, where it isn't too large
--   longer        the mode in a number after a digit
--   step_of       the tokens that a byte at this place ends or is, and the mode after it
--   chained       an answer passed on, or its fault
--   lex           the tokens of the bytes from this place on
--   lex_from      the same, where nothing is begun before
--   lex_of        the tokens of a text
--   Fails         an error is the fault of this answer, unless it is want of memory
--   Gives         an answer is this one, unless memory ran out
--   advance_of    what a byte does, where tokens are given one at a time
--   IsFinished    what ends before this place
--   IsNext        the first token from a place on, or the first fault
--   IsBefore      a mode begins no later than this place
use Rattle.std.specs.Prelude.{◌≡◌, ℕ, ◌+◌, ◌-◌, ◌*◌, ◌≤◌, ◌<◌, drop, length, List, [], ◌∷◌, ◌++◌, ◌==◌, nat_lt, None, Some, Result, Ok, Err, if◌then◌else◌}
use Rattle.std.specs.declared.option.Option.{Option}
use Rattle.fpl_alphabet.specs.Bytes.{is_blank, is_letter, is_digit, is_mark, most_name}
use Rattle.fpl_lex.specs.declared.token.Token.{Token}
use Rattle.fpl_lex.specs.declared.token.TokenKind.TheVariants as kinds
use Rattle.fpl_lex.specs.declared.fault.LexError.{LexError}
use Rattle.fpl_lex.specs.declared.fault.LexError.TheVariants.{BadByte, NumberTooLarge, NameTooLong, NoMemory}
use Rattle.fpl_lex.specs.declared.lexing.Mode.{Mode}
use Rattle.fpl_lex.specs.declared.lexing.Mode.TheVariants.{Between, InComment, InWord, InNumber}
use Rattle.fpl_lex.specs.declared.lexing.Class.{Class}
use Rattle.fpl_lex.specs.declared.lexing.Class.TheVariants.{Letter, Digit, Underscore, LineEnd, Blank, Hash, Mark, Other}
use Rattle.fpl_lex.specs.declared.lexing.Advance.{Advance}
use Rattle.fpl_lex.specs.declared.lexing.Advance.TheVariants.{Into, Ends, Fault}
use Rattle.fpl_lex.specs.Cut.{joined}
use Rattle.fpl_numbers.specs.Numbers.{most_number}

abbrev pub class_of : ℕ → Class
class_of b =
    if is_letter b then Letter else
    if is_digit b then Digit (b - 48) else
    if b == 95 then Underscore else
    if b == 10 then LineEnd else
    if is_blank b then Blank else
    if b == 35 then Hash else
    if is_mark b then Mark else Other

abbrev pub finished : Mode → ℕ → Result (List Token) LexError
finished Between at = Ok []
finished InComment at = Ok []
finished (InWord start) at = if nat_lt most_name (at - start) then Err (NameTooLong start) else Ok (record { start = start; end = at; kind = kinds.Word } ∷ [])
finished (InNumber start n) at = Ok (record { start = start; end = at; kind = kinds.Number n } ∷ [])

abbrev pub begun : ℕ → ℕ → Class → Result (List Token × Mode) LexError
begun at b Letter = Ok ([], InWord at)
begun at b (Digit d) = Ok ([], InNumber at d)
begun at b Underscore = Err (BadByte at)
begun at b LineEnd = Ok ([], Between)
begun at b Blank = Ok ([], Between)
begun at b Hash = Ok ([], InComment)
begun at b Mark = Ok (record { start = at; end = at + 1; kind = kinds.Mark b } ∷ [], Between)
begun at b Other = Err (BadByte at)

-- tokens before those of a step
abbrev pub after : Result (List Token) LexError → Result (List Token × Mode) LexError → Result (List Token × Mode) LexError
after (Err e) step = Err e
after (Ok ts) (Err e) = Err e
after (Ok ts) (Ok step) = Ok (ts ++ step.0, step.1)

abbrev pub with_digit : ℕ → ℕ → Option ℕ
with_digit n d = if nat_lt most_number (10 * n + d) then None else Some (10 * n + d)

abbrev pub longer : ℕ → Option ℕ → Result (List Token × Mode) LexError
longer start None = Err (NumberTooLarge start)
longer start (Some n) = Ok ([], InNumber start n)

abbrev pub step_of : Mode → ℕ → ℕ → Class → Result (List Token × Mode) LexError
step_of Between at b class = after (finished Between at) (begun at b class)
step_of InComment at b LineEnd = Ok ([], Between)
step_of InComment at b class = Ok ([], InComment)
step_of (InWord start) at b Letter = Ok ([], InWord start)
step_of (InWord start) at b (Digit d) = Ok ([], InWord start)
step_of (InWord start) at b Underscore = Ok ([], InWord start)
step_of (InWord start) at b class = after (finished (InWord start) at) (begun at b class)
step_of (InNumber start n) at b (Digit d) = longer start (with_digit n d)
step_of (InNumber start n) at b class = after (finished (InNumber start n) at) (begun at b class)

abbrev pub chained : {X Y : Type 0} → Result X LexError → (X → Result Y LexError) → Result Y LexError
chained (Err e) f = Err e
chained (Ok x) f = f x

abbrev pub lex : Mode → ℕ → List ℕ → Result (List Token) LexError
lex mode at [] = finished mode at
lex mode at (b ∷ bs) = chained (step_of mode at b (class_of b)) (λ s. joined (Ok s.0) (lex s.1 (at + 1) bs))

-- the tokens from this place on, where nothing is begun there
abbrev pub lex_from : ℕ → List ℕ → Result (List Token) LexError
lex_from at bytes = lex Between at bytes

abbrev pub lex_of : List ℕ → Result (List Token) LexError
lex_of text = lex Between 0 text

abbrev pub Fails : {Y : Type 0} → LexError → Result Y LexError → Type 0
Fails (BadByte place) answer = answer ≡ Err (BadByte place)
Fails (NumberTooLarge place) answer = answer ≡ Err (NumberTooLarge place)
Fails (NameTooLong place) answer = answer ≡ Err (NameTooLong place)
Fails NoMemory answer = Unit {0}

abbrev pub Gives : {X Y : Type 0} → (X → Y) → Result X LexError → Result Y LexError → Type 0
Gives view (Ok x) answer = answer ≡ Ok (view x)
Gives view (Err e) answer = Fails e answer

-- the code's step, which gives one token at a time

abbrev pub ends_by : Result (List Token) LexError → Mode → Advance
ends_by (Err e) mode = Fault e
ends_by (Ok []) mode = Into mode
ends_by (Ok (t ∷ ts)) mode = Ends t

abbrev pub ends_before : Mode → ℕ → Advance
ends_before mode at = ends_by (finished mode at) mode

abbrev pub begun_by : ℕ → ℕ → Class → Advance
begun_by at b Letter = Into (InWord at)
begun_by at b (Digit d) = Into (InNumber at d)
begun_by at b Underscore = Fault (BadByte at)
begun_by at b LineEnd = Into Between
begun_by at b Blank = Into Between
begun_by at b Hash = Into InComment
begun_by at b Mark = Ends (record { start = at; end = at + 1; kind = kinds.Mark b })
begun_by at b Other = Fault (BadByte at)

abbrev pub lengthened : ℕ → Option ℕ → Advance
lengthened start None = Fault (NumberTooLarge start)
lengthened start (Some n) = Into (InNumber start n)

abbrev pub advance_of : Mode → ℕ → ℕ → Class → Advance
advance_of Between at b class = begun_by at b class
advance_of InComment at b LineEnd = Into Between
advance_of InComment at b class = Into InComment
advance_of (InWord start) at b Letter = Into (InWord start)
advance_of (InWord start) at b (Digit d) = Into (InWord start)
advance_of (InWord start) at b Underscore = Into (InWord start)
advance_of (InWord start) at b class = ends_before (InWord start) at
advance_of (InNumber start n) at b (Digit d) = lengthened start (with_digit n d)
advance_of (InNumber start n) at b class = ends_before (InNumber start n) at

-- the end of the text, or a token that ends there
abbrev pub IsFinished : Mode → ℕ → Result (Option Token) LexError → Type 0
IsFinished mode at (Ok None) = finished mode at ≡ Ok []
IsFinished mode at (Ok (Some t)) = finished mode at ≡ Ok (t ∷ [])
IsFinished mode at (Err e) = finished mode at ≡ Err e

-- the tokens from this place on are this one and those after it
abbrev pub IsNext : List ℕ → ℕ → Result (Option Token) LexError → Type 0
IsNext text from (Ok None) = lex_from from (drop from text) ≡ Ok []
IsNext text from (Ok (Some t)) = (lex_from from (drop from text) ≡ joined (Ok (t ∷ [])) (lex_from t.end (drop t.end text))) × (from < t.end) ×
    (t.end ≤ length text)
IsNext text from (Err e) = lex_from from (drop from text) ≡ Err e

-- a mode that begins no later than this place
abbrev pub IsBefore : Mode → ℕ → Type 0
IsBefore Between at = Unit {0}
IsBefore InComment at = Unit {0}
IsBefore (InWord start) at = start ≤ at
IsBefore (InNumber start n) at = start ≤ at

-- a mode at a place after one from which tokens are looked for
abbrev pub IsWithin : ℕ → Mode → ℕ → Type 0
IsWithin from Between at = from ≤ at
IsWithin from InComment at = from ≤ at
IsWithin from (InWord start) at = (from ≤ start) × (start < at)
IsWithin from (InNumber start n) at = (from ≤ start) × (start < at)
