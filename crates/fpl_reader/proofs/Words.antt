-- The names of a text are names.
use Rattle.std.proofs.Common.{◌≡◌, ℕ, ◌+◌, ◌-◌, ◌≤◌, List, [], ◌∷◌, ◌++◌, length, Bool, true, false, nat_lt, nat_le, IsTrue, if◌then◌else◌, refl, ap, sym, ◌∙◌, subst, arith, length-append, append_assoc, Result}
use Rattle.std.specs.Prelude.{Ok, Err}
use Rattle.std.proofs.lemmas.Bool.{ltb-false, le-leb}
use Rattle.std.proofs.Math.Seq.{drop-append_seam, take-append_seam}
use Rattle.fpl_alphabet.specs.Bytes.{is_word, most_name}
use Rattle.fpl_lex.specs.declared.token.Token.{Token}
use Rattle.fpl_lex.specs.declared.token.TokenKind.{TokenKind}
use Rattle.fpl_lex.specs.declared.token.TokenKind.TheVariants as kinds
use Rattle.fpl_lex.specs.declared.fault.LexError.{LexError}
use Rattle.fpl_lex.specs.declared.fault.LexError.TheVariants.{NameTooLong, NumberTooLarge}
use Rattle.fpl_lex.specs.Cut.{Form, blank, comment, word, number, mark, other, Piece, IsPiece, IsCut, piece_tokens, mark_tokens, joined, reading_from, Reads, value_of, token_at}
use Rattle.fpl_numbers.specs.Numbers.{most_number}
use Rattle.fpl_syntax.specs.Sight.{word_of}

ok-equal : {A : Type 0} {x y : A} → ◌≡◌ {A = Result A LexError} (Ok x) (Ok y) → x ≡ y
ok-equal e = cc

-- a word of a text, where a token is one
abbrev pub IsWordAt : List ℕ → ℕ → ℕ → TokenKind → Type 0
IsWordAt text start end kinds.Word = IsTrue (is_word (word_of text start end)) × (length (word_of text start end) ≤ most_name)
IsWordAt text start end (kinds.Number n) = Unit {0}
IsWordAt text start end (kinds.Mark b) = Unit {0}

abbrev pub AreWords : List ℕ → List Token → Type 0
AreWords text [] = Unit {0}
AreWords text (t ∷ ts) = IsWordAt text t.start t.end t.kind × AreWords text ts

-- the bytes of a piece in its text
pub piece_bytes : (before bytes after : List ℕ) → word_of (before ++ (bytes ++ after)) (length before) (length before + length bytes) ≡ bytes
piece_bytes before bytes after =
    let l = length-append before (bytes ++ after) in
    let m = length-append bytes after in
    let first : nat_le (length before) (length before + length bytes) ≡ true = le-leb _ _ (omega arith) in
    let second : nat_le (length before + length bytes) (length (before ++ (bytes ++ after))) ≡ true = le-leb _ _ (omega arith) in
    let size : length before + length bytes - length before ≡ length bytes = omega arith in
    rw (first, second, size, drop-append_seam before (bytes ++ after), take-append_seam bytes after) refl

word_piece : (bytes after : List ℕ) → IsPiece word bytes after → IsTrue (is_word bytes)
word_piece [] after piece = elim piece [ ]
word_piece (b ∷ bs) after (letter, all, stops) = rw letter all

word_tokens : (before bytes after : List ℕ) (us : List Token) (t : Bool) → nat_lt most_name (length bytes) ≡ t → IsTrue (is_word bytes)
    → ◌≡◌ {A = Result (List Token) LexError} (if t then Err (NameTooLong (length before)) else Ok (token_at (length before) bytes kinds.Word ∷ []))
    (Ok us) → AreWords (before ++ (bytes ++ after)) us
word_tokens before bytes after us true test spelled e = cc
word_tokens before bytes after us false test spelled e =
    let same : token_at (length before) bytes kinds.Word ∷ [] ≡ us = ok-equal e in
    let here = piece_bytes before bytes after in
    subst (AreWords (before ++ (bytes ++ after))) same
    ((subst (λ w. IsTrue (is_word w)) (sym here) spelled, subst (λ w. length w ≤ most_name) (sym here) (ltb-false most_name (length bytes) test)), tt)

number_tokens : (text : List ℕ) (at n : ℕ) (bytes : List ℕ) (us : List Token) (t : Bool)
    → ◌≡◌ {A = Result (List Token) LexError} (if t then Err (NumberTooLarge at) else Ok (token_at at bytes (kinds.Number n) ∷ [])) (Ok us) → AreWords text us
number_tokens text at n bytes us true e = cc
number_tokens text at n bytes us false e = subst (AreWords text) (ok-equal e) (tt, tt)

mark_are : (text : List ℕ) (at : ℕ) (bytes : List ℕ) → AreWords text (mark_tokens at bytes)
mark_are text at [] = tt
mark_are text at (b ∷ bs) = (tt, tt)

none_are : (text : List ℕ) (us : List Token) → ◌≡◌ {A = Result (List Token) LexError} (Ok []) (Ok us) → AreWords text us
none_are text us e = subst (AreWords text) (ok-equal e) tt

piece_are : (before bytes after : List ℕ) (form : Form) (us : List Token) → IsPiece form bytes after →
    piece_tokens (length before) form bytes ≡ Ok us → AreWords (before ++ (bytes ++ after)) us
piece_are before bytes after blank us piece e = none_are _ us e
piece_are before bytes after comment us piece e = none_are _ us e
piece_are before bytes after word us piece e = word_tokens before bytes after us (nat_lt most_name (length bytes)) refl (word_piece bytes after piece) e
piece_are before bytes after number us piece e = number_tokens _ (length before) (value_of bytes) bytes us (nat_lt most_number (value_of bytes)) e
piece_are before bytes after mark us piece e = subst (AreWords (before ++ (bytes ++ after))) (ok-equal e) (mark_are _ (length before) bytes)
piece_are before bytes after other us piece e = cc

AreWords-append : (text : List ℕ) (us vs : List Token) → AreWords text us → AreWords text vs → AreWords text (us ++ vs)
AreWords-append text [] vs h k = k
AreWords-append text (u ∷ us) vs (h, hs) k = (h, AreWords-append text us vs hs k)

join_are : (text : List ℕ) (a b : Result (List Token) LexError) (ts : List Token) → ((us : List Token) → a ≡ Ok us → AreWords text us) →
    ((vs : List Token) → b ≡ Ok vs → AreWords text vs) → joined a b ≡ Ok ts → AreWords text ts
join_are text (Ok us) (Ok vs) ts h k e = subst (AreWords text) (ok-equal e) (AreWords-append text us vs (h us refl) (k vs refl))
join_are text (Ok us) (Err f) ts h k e = cc
join_are text (Err f) b ts h k e = cc

cut_are : (ps : List Piece) (before rest : List ℕ) (ts : List Token) → IsCut rest ps → reading_from (length before) ps ≡ Ok ts → AreWords (before ++ rest) ts
cut_are [] before rest ts cut e = none_are _ ts e
cut_are (p ∷ ps) before rest ts (after, whole, piece, cut) e =
    subst (λ r. AreWords (before ++ r) ts) (sym whole)
    (join_are (before ++ (p.bytes ++ after)) (piece_tokens (length before) p.form p.bytes) (reading_from (length before + length p.bytes) ps) ts
    (λ us h. piece_are before p.bytes after p.form us piece h)
    (λ vs h.
    subst (λ text. AreWords text vs) (append_assoc before p.bytes after)
    (cut_are ps (before ++ p.bytes) after vs cut (ap (λ n. reading_from n ps) (length-append before p.bytes) ∙ h)))
    e)

-- the words of a text are words
pub text_words : (text : List ℕ) (ts : List Token) → Reads text (Ok ts) → AreWords text ts
text_words text ts r = cut_are r.pieces [] text ts r.cut r.read
