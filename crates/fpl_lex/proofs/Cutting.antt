-- A text is cut in one way, and the machine gives the reading of that cut.
use Rattle.std.proofs.Common.{◌≡◌, ℕ, suc, ◌+◌, ◌-◌, ◌*◌, ◌≤◌, ◌<◌, List, [], ◌∷◌, ◌++◌, length, Bool, true, false, ◌==◌, nat_lt, Result, if◌then◌else◌, refl, ap, sym, ◌∙◌, subst, arith, inl, inr}
use Rattle.std.specs.Prelude.{Ok, Err}
use Rattle.std.specs.List.{list_all}
use Rattle.std.proofs.lemmas.Bool.{eqb-true, ltb-true, ltb-false, lt-ltb, le-ltb, and_parts, and_from}
use Rattle.fpl_alphabet.specs.Bytes.{is_blank, is_letter, is_digit, is_word_byte, is_mark}
use Rattle.fpl_lex.specs.declared.token.Token.{Token}
use Rattle.fpl_lex.specs.declared.fault.LexError.{LexError}
use Rattle.fpl_lex.specs.declared.fault.LexError.TheVariants.{BadByte, NumberTooLarge, NameTooLong, NoMemory}
use Rattle.fpl_lex.specs.declared.lexing.Mode.{Mode}
use Rattle.fpl_lex.specs.declared.lexing.Mode.TheVariants.{Between, InComment, InWord, InNumber}
use Rattle.fpl_lex.specs.Cut.{Form, blank, comment, word, number, mark, other, Piece, Stops, begins, is_in_comment, IsPiece, IsCut, value_from, piece_tokens, joined, reading_from, Reads, Lexed}
use Rattle.fpl_numbers.specs.Numbers.{most_number}
use Rattle.fpl_lex.specs.Machine.{class_of, finished, after, step_of, chained, lex, lex_of, Gives}
use Rattle.fpl_lex.proofs.MachineSteps.{digit_class, blank_class, mark_class, other_class, comment_goes, comment_ends, word_goes, word_ends, number_ends, joined_none, joined_last, rest_of, lex_step, ends, goes}

at_zero : (at : ℕ) (mode : Mode) (bs : List ℕ) → lex mode at bs ≡ lex mode (at + 0) bs
at_zero at mode bs = ap (λ n. lex mode n bs) (omega arith)

at_suc : (at n : ℕ) (mode : Mode) (bs : List ℕ) → lex mode (at + 1 + n) bs ≡ lex mode (at + suc n) bs
at_suc at n mode bs = ap (λ n. lex mode n bs) (omega arith)

-- the rest of a comment
in_comment : (at : ℕ) (bs after : List ℕ) → list_all is_in_comment bs ≡ true → Stops is_in_comment after →
    lex InComment at (bs ++ after) ≡ lex Between (at + length bs) after
in_comment at [] [] all stops = refl
in_comment at [] (b ∷ after) all stops =
    let e : step_of InComment at b (class_of b) ≡ Ok ([], Between) = rw (comment_ends b stops) refl in
    let f : step_of Between at b (class_of b) ≡ Ok ([], Between) = rw (comment_ends b stops) refl in
    goes InComment Between at b after e ∙ sym (goes Between Between at b after f) ∙ at_zero at Between (b ∷ after)
in_comment at (b ∷ bs) after all stops =
    goes InComment InComment at b (bs ++ after) (comment_goes at b (and_parts _ _ all).0) ∙ in_comment (at + 1) bs after (and_parts _ _ all).1 stops ∙
    at_suc at (length bs) Between after

-- the end of a word, or of a number, at the end of the text or before a byte that ends it
at_end : (mode : Mode) (at : ℕ) (after : List ℕ) → lex mode at after ≡ joined (finished mode at) (lex Between at after) →
    lex mode at after ≡ joined (finished mode (at + 0)) (lex Between (at + 0) after)
at_end mode at after e = subst (λ n. lex mode at after ≡ joined (finished mode n) (lex Between n after)) (omega arith) e

later : (mode : Mode) (at n : ℕ) (after : List ℕ) → joined (finished mode (at + 1 + n)) (lex Between (at + 1 + n) after) ≡
    joined (finished mode (at + suc n)) (lex Between (at + suc n) after)
later mode at n after = ap (λ n. joined (finished mode n) (lex Between n after)) (omega arith)

in_word : (start at : ℕ) (bs after : List ℕ) → list_all is_word_byte bs ≡ true → Stops is_word_byte after
    → lex (InWord start) at (bs ++ after) ≡ joined (finished (InWord start) (at + length bs)) (lex Between (at + length bs) after)
in_word start at [] [] all stops = at_end (InWord start) at [] (sym (joined_last (finished (InWord start) at)))
in_word start at [] (b ∷ after) all stops = at_end (InWord start) at (b ∷ after) (ends (InWord start) at b after (word_ends start at b stops))
in_word start at (b ∷ bs) after all stops =
    goes (InWord start) (InWord start) at b (bs ++ after) (word_goes start at b (and_parts _ _ all).0)
    ∙ in_word start (at + 1) bs after (and_parts _ _ all).1 stops ∙ later (InWord start) at (length bs) after

-- the end of a number with this value
unfoldable number_end : ℕ → ℕ → ℕ → Result (List Token) LexError
number_end start n end = if nat_lt most_number n then Err (NumberTooLarge start) else finished (InNumber start n) end

number_end-fits : (start n end : ℕ) → n ≤ most_number → number_end start n end ≡ finished (InNumber start n) end
unfolding number_end
number_end-fits start n end fits = rw (le-ltb most_number n fits) refl

number_end-large : (start n end : ℕ) → most_number < n → number_end start n end ≡ Err (NumberTooLarge start)
unfolding number_end
number_end-large start n end large = rw (lt-ltb most_number n large) refl

value_from-least : (n : ℕ) (bs : List ℕ) → n ≤ value_from n bs
value_from-least n [] = omega arith
value_from-least n (b ∷ bs) = let h = value_from-least (10 * n + (b - 48)) bs in omega arith

number_goes : (start n at b : ℕ) → is_digit b ≡ true → 10 * n + (b - 48) ≤ most_number → step_of (InNumber start n) at b (class_of b) ≡
    Ok ([], InNumber start (10 * n + (b - 48)))
number_goes start n at b e fits = rw (digit_class b e, le-ltb most_number (10 * n + (b - 48)) fits) refl

number_fails : (start n at b : ℕ) → is_digit b ≡ true → most_number < 10 * n + (b - 48) → step_of (InNumber start n) at b (class_of b) ≡
    Err (NumberTooLarge start)
number_fails start n at b e large = rw (digit_class b e, lt-ltb most_number (10 * n + (b - 48)) large) refl

either_side : {P : Type 0} (m n : ℕ) → (m < n → P) → (n ≤ m → P) → P
either_side {P} m n f g = elim (nat_lt m n) as (λ t. nat_lt m n ≡ t → P) [ true ↦ λ t. f (ltb-true m n t) | false ↦ λ t. g (ltb-false m n t) ] refl

in_number : (start at n : ℕ) (bs after : List ℕ) → n ≤ most_number → list_all is_digit bs ≡ true → Stops is_digit after
    → lex (InNumber start n) at (bs ++ after) ≡ joined (number_end start (value_from n bs) (at + length bs)) (lex Between (at + length bs) after)
in_number start at n [] [] fits all stops =
    at_end (InNumber start n) at [] (sym (joined_last (finished (InNumber start n) at))) ∙ ap (λ e. joined e (lex Between (at + 0) []))
    (sym (number_end-fits start n (at + 0) fits))
in_number start at n [] (b ∷ after) fits all stops =
    at_end (InNumber start n) at (b ∷ after) (ends (InNumber start n) at b after (number_ends start n at b stops)) ∙
    ap (λ e. joined e (lex Between (at + 0) (b ∷ after))) (sym (number_end-fits start n (at + 0) fits))
in_number start at n (b ∷ bs) after fits all stops =
    let m : ℕ = 10 * n + (b - 48) in
    let digit : is_digit b ≡ true = (and_parts _ _ all).0 in
    either_side most_number m
    (λ large.
    lex_step (InNumber start n) at b (bs ++ after) ∙ ap (λ s. chained s (rest_of at (bs ++ after))) (number_fails start n at b digit large)
    ∙ ap (λ e. joined e (lex Between (at + suc (length bs)) after))
    (sym (number_end-large start (value_from m bs) (at + suc (length bs)) (let h = value_from-least m bs in omega arith))))
    (λ small.
    goes (InNumber start n) (InNumber start m) at b (bs ++ after) (number_goes start n at b digit small)
    ∙ in_number start (at + 1) m bs after small (and_parts _ _ all).1 stops
    ∙ ap (λ e. joined (number_end start (value_from m bs) e) (lex Between e after)) (omega arith))

-- the front of a text

front_blank : (at b : ℕ) (after : List ℕ) → is_blank b ≡ true → lex Between at (b ∷ after) ≡ joined (Ok []) (lex Between (at + 1) after)
front_blank at b after e =
    elim (blank_class b e) [
      | inl c ↦ goes Between Between at b after (rw c refl) ∙ sym (joined_none (lex Between (at + 1) after))
      | inr c ↦ goes Between Between at b after (rw c refl) ∙ sym (joined_none (lex Between (at + 1) after))
    ]

front_mark : (at b : ℕ) (after : List ℕ) → is_mark b ≡ true → lex Between at (b ∷ after) ≡ joined (piece_tokens at mark (b ∷ [])) (lex Between (at + 1) after)
unfolding rest_of
front_mark at b after e = lex_step Between at b after ∙ rw (mark_class b e) refl

front_other : (at b : ℕ) (after : List ℕ) → begins b ≡ false → lex Between at (b ∷ after) ≡ Err (BadByte at)
unfolding rest_of
front_other at b after e = elim (other_class b e) [ inl c ↦ lex_step Between at b after ∙ rw c refl | inr c ↦ lex_step Between at b after ∙ rw c refl ]

front_comment : (at : ℕ) (bs after : List ℕ) → list_all is_in_comment bs ≡ true → Stops is_in_comment after
    → lex Between at (35 ∷ bs ++ after) ≡ lex Between (at + suc (length bs)) after
front_comment at bs after all stops =
    goes Between InComment at 35 (bs ++ after) refl ∙ in_comment (at + 1) bs after all stops ∙ at_suc at (length bs) Between after

word_token : (at : ℕ) (bs : List ℕ) → finished (InWord at) (at + length bs) ≡ piece_tokens at word bs
word_token at bs = let e : at + length bs - at ≡ length bs = omega arith in rw e refl

front_word : (at b : ℕ) (bs after : List ℕ) → is_letter b ≡ true → list_all is_word_byte bs ≡ true → Stops is_word_byte after
    → lex Between at (b ∷ bs ++ after) ≡ joined (piece_tokens at word (b ∷ bs)) (lex Between (at + suc (length bs)) after)
front_word at b bs after e all stops =
    goes Between (InWord at) at b (bs ++ after) (rw e refl) ∙ in_word at (at + 1) bs after all stops ∙ later (InWord at) at (length bs) after
    ∙ ap (λ t. joined t (lex Between (at + suc (length bs)) after)) (word_token at (b ∷ bs))

digit_small : (b : ℕ) → is_digit b ≡ true → b - 48 ≤ most_number
digit_small b e = grind arith

number_token : (at b : ℕ) (bs : List ℕ) → number_end at (value_from (b - 48) bs) (at + suc (length bs)) ≡ piece_tokens at number (b ∷ bs)
unfolding number_end
number_token at b bs = let e : 10 * 0 + (b - 48) ≡ b - 48 = omega arith in rw e refl

front_number : (at b : ℕ) (bs after : List ℕ) → is_digit b ≡ true → list_all is_digit bs ≡ true → Stops is_digit after
    → lex Between at (b ∷ bs ++ after) ≡ joined (piece_tokens at number (b ∷ bs)) (lex Between (at + suc (length bs)) after)
front_number at b bs after e all stops =
    goes Between (InNumber at (b - 48)) at b (bs ++ after) (rw (digit_class b e) refl) ∙ in_number at (at + 1) (b - 48) bs after (digit_small b e) all stops
    ∙ ap (λ n. joined (number_end at (value_from (b - 48) bs) n) (lex Between n after)) (omega arith)
    ∙ ap (λ t. joined t (lex Between (at + suc (length bs)) after)) (number_token at b bs)

-- the machine goes over a piece
front : (at : ℕ) (form : Form) (bytes after : List ℕ) → IsPiece form bytes after → lex Between at (bytes ++ after) ≡
    joined (piece_tokens at form bytes) (lex Between (at + length bytes) after)
front at blank (b ∷ []) after e = front_blank at b after e
front at comment (b ∷ bs) after (h, all, stops) = rw h (front_comment at bs after all stops ∙ sym (joined_none (lex Between (at + suc (length bs)) after)))
front at word (b ∷ bs) after (e, all, stops) = front_word at b bs after e all stops
front at number (b ∷ bs) after (e, all, stops) = front_number at b bs after e all stops
front at mark (b ∷ []) after e = front_mark at b after e
front at other (b ∷ []) after e = front_other at b after e
front at form bytes after e = absurd e

-- the machine gives the reading of each cut
cut_lexed : (at : ℕ) (text : List ℕ) (ps : List Piece) → IsCut text ps → lex Between at text ≡ reading_from at ps
cut_lexed at text [] e = rw e refl
cut_lexed at text (p ∷ ps) (after, e, piece, rest) =
    rw e (front at p.form p.bytes after piece ∙ ap (joined (piece_tokens at p.form p.bytes)) (cut_lexed (at + length p.bytes) after ps rest))

-- each text has a cut

-- a front of bytes that p takes, as long as possible, and a cut of the rest
record Runs (p : ℕ → Bool) (text : List ℕ) : Type 0 where
  front : List ℕ
  after : List ℕ
  whole : text ≡ front ++ after
  all : list_all p front ≡ true
  stops : Stops p after
  rest : (ps : List Piece) × IsCut after ps

record Cuts (text : List ℕ) : Type 0 where
  whole : (ps : List Piece) × IsCut text ps
  words : Runs is_word_byte text
  digits : Runs is_digit text
  comments : Runs is_in_comment text

Runs-none : (p : ℕ → Bool) → Runs p []
Runs-none p = record { front = []; after = []; whole = refl; all = refl; stops = tt; rest = ([], refl) }

Runs-more : (p : ℕ → Bool) (b : ℕ) (bs : List ℕ) → Runs p bs → (ps : List Piece) × IsCut (b ∷ bs) ps → Runs p (b ∷ bs)
Runs-more p b bs r cut =
    elim (p b) as (λ t. p b ≡ t → Runs p (b ∷ bs)) [
      | true ↦ λ t. record {
        front = b ∷ r.front;
        after = r.after;
        whole = ap (λ xs. b ∷ xs) r.whole;
        all = and_from _ _ t r.all;
        stops = r.stops;
        rest = r.rest;
      }
      | false ↦ λ t. record { front = []; after = b ∷ bs; whole = refl; all = refl; stops = t; rest = cut }
    ] refl

-- a piece before a cut
before : (form : Form) (bytes text after : List ℕ) → text ≡ bytes ++ after → IsPiece form bytes after → (ps : List Piece) × IsCut after ps →
    (ps : List Piece) × IsCut text ps
before form bytes text after e piece (ps, cut) = (record { form = form; bytes = bytes } ∷ ps, (after, e, piece, cut))

test : {P : Type 0} → (b : Bool) → ((b ≡ true) → P) → ((b ≡ false) → P) → P
test true f g = f refl
test false f g = g refl

cut_more : (b : ℕ) (bs : List ℕ) → Cuts bs → (ps : List Piece) × IsCut (b ∷ bs) ps
cut_more b bs c =
    test (is_letter b) (λ letter. before word (b ∷ c.words.front) (b ∷ bs) c.words.after (ap (λ xs. b ∷ xs) c.words.whole)
    (letter, c.words.all, c.words.stops) c.words.rest) (λ n1.
    test (is_digit b) (λ digit. before number (b ∷ c.digits.front) (b ∷ bs) c.digits.after (ap (λ xs. b ∷ xs) c.digits.whole)
    (digit, c.digits.all, c.digits.stops) c.digits.rest) (λ n2.
    test (b == 35) (λ hash. before comment (b ∷ c.comments.front) (b ∷ bs) c.comments.after (ap (λ xs. b ∷ xs) c.comments.whole)
    (eqb-true b 35 hash, c.comments.all, c.comments.stops) c.comments.rest) (λ n3.
    test (is_blank b) (λ gap. before blank (b ∷ []) (b ∷ bs) bs refl gap c.whole) (λ n4.
    test (is_mark b) (λ sign. before mark (b ∷ []) (b ∷ bs) bs refl sign c.whole) (λ n5.
    before other (b ∷ []) (b ∷ bs) bs refl (rw (n4, n3, n1, n2, n5) refl) c.whole)))))

cuts : (text : List ℕ) → Cuts text
cuts [] = record { whole = ([], refl); words = Runs-none is_word_byte; digits = Runs-none is_digit; comments = Runs-none is_in_comment }
cuts (b ∷ bs) =
    let c = cuts bs in
    let whole = cut_more b bs c in
    record {
      whole = whole;
      words = Runs-more is_word_byte b bs c.words whole;
      digits = Runs-more is_digit b bs c.digits whole;
      comments =
          Runs-more is_in_comment b bs c.comments whole;
    }

-- the machine reads
pub lex_reads : (text : List ℕ) → Reads text (lex_of text)
lex_reads text = let c = cuts text in record { pieces = c.whole.0; cut = c.whole.1; read = sym (cut_lexed 0 text c.whole.0 c.whole.1) }

pub reads_lexed : {text : List ℕ} {answer : Result (List Token) LexError} → Reads text answer → lex_of text ≡ answer
reads_lexed {text} r = cut_lexed 0 text r.pieces r.cut ∙ r.read

pub lexed_from_gives : (text : List ℕ) (result : Result (List Token) LexError) → Gives (λ ts. ts) result (lex_of text) → Lexed text result
lexed_from_gives text (Ok ts) e = subst (Reads text) e (lex_reads text)
lexed_from_gives text (Err (BadByte place)) e = subst (Reads text) e (lex_reads text)
lexed_from_gives text (Err (NumberTooLarge place)) e = subst (Reads text) e (lex_reads text)
lexed_from_gives text (Err (NameTooLong place)) e = subst (Reads text) e (lex_reads text)
lexed_from_gives text (Err NoMemory) e = tt
