-- How many tokens a text has, and how many events its terminals are.
use Rattle.std.proofs.Common.{◌≡◌, ℕ, ◌+◌, ◌≤◌, List, [], ◌∷◌, ◌++◌, length, Bool, true, false, nat_lt, if◌then◌else◌, Result, ap, subst, arith, length-append}
use Rattle.std.specs.Prelude.{None, Some, Ok, Err}
use Rattle.std.specs.declared.option.Option.{Option}
use Rattle.fpl_alphabet.specs.Bytes.{most_name}
use Rattle.fpl_lex.specs.declared.token.Token.{Token}
use Rattle.fpl_lex.specs.declared.fault.LexError.{LexError}
use Rattle.fpl_lex.specs.Cut.{Form, blank, comment, word, number, mark, other, Piece, IsPiece, IsCut, value_of, mark_tokens, piece_tokens, joined, reading_from, Reads}
use Rattle.fpl_numbers.specs.Numbers.{most_number}
use Rattle.fpl_syntax.specs.declared.terminal.Terminal.{Terminal}
use Rattle.fpl_reader.specs.declared.survey.Event.{Event}
use Rattle.fpl_reader.specs.declared.survey.Track.{Track}
use Rattle.fpl_reader.specs.Scan.{note, scan, event_list}

abbrev IsShort : ℕ → Result (List Token) LexError → Type 0
IsShort n (Ok ts) = length ts ≤ n
IsShort n (Err e) = Unit {0}

one_or_fault : (t : Bool) (e : LexError) (token : Token) → IsShort 1 (if t then Err e else Ok (token ∷ []))
one_or_fault true e token = tt
one_or_fault false e token = omega arith

mark_short : (at : ℕ) (bytes : List ℕ) → length (mark_tokens at bytes) ≤ 1
mark_short at [] = omega arith
mark_short at (b ∷ bs) = omega arith

piece_short : (at : ℕ) (form : Form) (bytes : List ℕ) → IsShort 1 (piece_tokens at form bytes)
piece_short at blank bytes = omega arith
piece_short at comment bytes = omega arith
piece_short at word bytes = one_or_fault (nat_lt most_name (length bytes)) _ _
piece_short at number bytes = one_or_fault (nat_lt most_number (value_of bytes)) _ _
piece_short at mark bytes = mark_short at bytes
piece_short at other bytes = tt

piece_some : (form : Form) (after : List ℕ) → IsPiece form [] after → ⊥
piece_some blank after h = h
piece_some comment after h = h
piece_some word after h = h
piece_some number after h = h
piece_some mark after h = h
piece_some other after h = h

piece_long : (form : Form) (bytes after : List ℕ) → IsPiece form bytes after → 1 ≤ length bytes
piece_long form [] after h = absurd (piece_some form after h)
piece_long form (b ∷ bs) after h = omega arith

join_short : (m n : ℕ) (a b : Result (List Token) LexError) → IsShort m a → IsShort n b → IsShort (m + n) (joined a b)
join_short m n (Ok us) (Ok vs) h k = let l = length-append us vs in omega arith
join_short m n (Ok us) (Err e) h k = tt
join_short m n (Err e) b h k = tt

longer : (m n : ℕ) (a : Result (List Token) LexError) → m ≤ n → IsShort m a → IsShort n a
longer m n (Ok ts) l h = omega arith
longer m n (Err e) l h = tt

cut_short : (ps : List Piece) (at : ℕ) (text : List ℕ) → IsCut text ps → IsShort (length text) (reading_from at ps)
cut_short [] at text e = omega arith
cut_short (p ∷ ps) at text (after, whole, piece, cut) =
    let l = length-append p.bytes after in
    let m = piece_long p.form p.bytes after piece in
    let n : length text ≡ length (p.bytes ++ after) = ap length whole in
    longer (1 + length after) (length text) _ (omega arith) (join_short 1 (length after) _ _ (piece_short at p.form p.bytes)
    (cut_short ps (at + length p.bytes) after cut))

-- a text has no more tokens than bytes
pub few_tokens : (text : List ℕ) (ts : List Token) → Reads text (Ok ts) → length ts ≤ length text
few_tokens text ts r = subst (IsShort (length text)) r.read (cut_short r.pieces 0 text r.cut)

one_event : (o : Option Event) → length (event_list o) ≤ 1
one_event None = omega arith
one_event (Some e) = omega arith

pub few_events : (t : Track) (terminals : List Terminal) → length (scan t terminals) ≤ length terminals
few_events t [] = omega arith
few_events t (terminal ∷ terminals) =
    let h = one_event (note t terminal).0 in
    let k = few_events (note t terminal).1 terminals in
    let l = length-append (event_list (note t terminal).0) (scan (note t terminal).1 terminals) in
    omega arith
