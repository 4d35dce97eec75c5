-- What the machine does at a byte of each class, and at the end of a part.
use Rattle.std.proofs.Common.{◌≡◌, ℕ, ◌+◌, ◌-◌, List, [], ◌∷◌, ◌++◌, Bool, true, false, ◌||◌, ◌==◌, Result, if◌then◌else◌, refl, ap, sym, ◌∙◌, arith, append_assoc, ◌⊎◌, inl, inr}
use Rattle.std.specs.Prelude.{Ok, Err}
use Rattle.std.proofs.lemmas.Bool.{eqb-true, true≢false, false≢true}
use Rattle.std.proofs.lemmas.List.{append-nil}
use Rattle.fpl_alphabet.specs.Bytes.{is_blank, is_letter, is_digit, is_word_byte, is_mark}
use Rattle.fpl_lex.specs.declared.token.Token.{Token}
use Rattle.fpl_lex.specs.declared.fault.LexError.{LexError}
use Rattle.fpl_lex.specs.declared.lexing.Mode.{Mode}
use Rattle.fpl_lex.specs.declared.lexing.Mode.TheVariants.{Between, InComment, InWord, InNumber}
use Rattle.fpl_lex.specs.declared.lexing.Class.{Class}
use Rattle.fpl_lex.specs.declared.lexing.Class.TheVariants.{Letter, Digit, Underscore, LineEnd, Blank, Hash, Mark, Other}
use Rattle.fpl_lex.specs.Cut.{begins, is_in_comment, joined}
use Rattle.fpl_lex.specs.Machine.{class_of, finished, begun, after, step_of, chained, lex}

-- tests of bytes

either : {P : Type 0} → (x y : Bool) → ((x ≡ true) → P) → ((y ≡ true) → P) → (x || y) ≡ true → P
either true y f g e = f refl
either false y f g e = g e

-- the classes of the bytes

is_at : (n b : ℕ) (class : Class) → class_of n ≡ class → (b == n) ≡ true → class_of b ≡ class
is_at n b class at e = rw (eqb-true b n e) at

pub digit_class : (b : ℕ) → is_digit b ≡ true → class_of b ≡ Digit (b - 48)
digit_class b e = grind arith

pub blank_class : (b : ℕ) → is_blank b ≡ true → (class_of b ≡ Blank) ⊎ (class_of b ≡ LineEnd)
blank_class b =
    either _ _ (either _ _ (either _ _
    (λ e. inl (is_at 9 b Blank refl e)) (λ e. inr (is_at 10 b LineEnd refl e))) (λ e. inl (is_at 13 b Blank refl e))) (λ e. inl (is_at 32 b Blank refl e))

pub mark_class : (b : ℕ) → is_mark b ≡ true → class_of b ≡ Mark
mark_class b =
    either _ _ (either _ _ (either _ _ (either _ _ (either _ _ (either _ _ (either _ _ (either _ _ (either _ _ (either _ _ (either _ _
    (is_at 59 b Mark refl) (is_at 44 b Mark refl)) (is_at 58 b Mark refl)) (is_at 61 b Mark refl)) (is_at 43 b Mark refl)) (is_at 45 b Mark refl))
    (is_at 42 b Mark refl)) (is_at 47 b Mark refl)) (is_at 91 b Mark refl)) (is_at 93 b Mark refl)) (is_at 40 b Mark refl)) (is_at 41 b Mark refl)

pub other_class : (b : ℕ) → begins b ≡ false → (class_of b ≡ Other) ⊎ (class_of b ≡ Underscore)
other_class b e = grind arith

-- a byte in a comment, and one that ends it

pub comment_goes : (at b : ℕ) → is_in_comment b ≡ true → step_of InComment at b (class_of b) ≡ Ok ([], InComment)
comment_goes at b e = stays (is_letter b) (is_digit b) (b == 95) (b == 10) (is_blank b) (b == 35) (is_mark b) e
  where
    stays : (p q r s t u v : Bool) → (if s then false else true) ≡ true
        → step_of InComment at b (if p then Letter else if q then Digit (b - 48) else if r then Underscore else if s then LineEnd else if t then Blank
        else if u then Hash else if v then Mark else Other) ≡ Ok ([], InComment)
    stays true q r s t u v e = refl
    stays false true r s t u v e = refl
    stays false false true s t u v e = refl
    stays false false false true t u v e = absurd (false≢true e)
    stays false false false false true u v e = refl
    stays false false false false false true v e = refl
    stays false false false false false false true e = refl
    stays false false false false false false false e = refl

pub comment_ends : (b : ℕ) → is_in_comment b ≡ false → class_of b ≡ LineEnd
comment_ends b e = elim (b == 10) as (λ t. (b == 10) ≡ t → (if t then false else true) ≡ false → class_of b ≡ LineEnd)
    [ true ↦ λ t e. is_at 10 b LineEnd refl t | false ↦ λ t e. absurd (true≢false e) ] refl e

-- a byte in a word, and one after it

pub word_goes : (start at b : ℕ) → is_word_byte b ≡ true → step_of (InWord start) at b (class_of b) ≡ Ok ([], InWord start)
word_goes start at b e = stays (is_letter b) (is_digit b) (b == 95) _ e
  where
    stays : (p q r : Bool) (rest : Class) → ((p || q) || r) ≡ true → step_of (InWord start) at b
        (if p then Letter else if q then Digit (b - 48) else if r then Underscore else rest) ≡ Ok ([], InWord start)
    stays true q r rest e = refl
    stays false true r rest e = refl
    stays false false true rest e = refl
    stays false false false rest e = absurd (false≢true e)

pub word_ends : (start at b : ℕ) → is_word_byte b ≡ false → step_of (InWord start) at b (class_of b) ≡ after (finished (InWord start) at)
    (begun at b (class_of b))
word_ends start at b e = stops (is_letter b) (is_digit b) (b == 95) (b == 10) (is_blank b) (b == 35) (is_mark b) e
  where
    stops : (p q r s t u v : Bool) → ((p || q) || r) ≡ false →
        let class = if p then Letter else if q then Digit (b - 48) else if r then Underscore else if s then LineEnd else if t then Blank else if u
        then Hash else if v then Mark else Other in
        step_of (InWord start) at b class ≡ after (finished (InWord start) at) (begun at b class)
    stops true q r s t u v e = absurd (true≢false e)
    stops false true r s t u v e = absurd (true≢false e)
    stops false false true s t u v e = absurd (true≢false e)
    stops false false false true t u v e = refl
    stops false false false false true u v e = refl
    stops false false false false false true v e = refl
    stops false false false false false false true e = refl
    stops false false false false false false false e = refl

-- a digit in a number, and a byte after it

pub number_ends : (start n at b : ℕ) → is_digit b ≡ false → step_of (InNumber start n) at b (class_of b) ≡
    after (finished (InNumber start n) at) (begun at b (class_of b))
number_ends start n at b e = stops (is_letter b) (is_digit b) (b == 95) (b == 10) (is_blank b) (b == 35) (is_mark b) e
  where
    stops : (p q r s t u v : Bool) → q ≡ false →
        let class = if p then Letter else if q then Digit (b - 48) else if r then Underscore else if s then LineEnd else if t then Blank else if u
        then Hash else if v then Mark else Other in
        step_of (InNumber start n) at b class ≡ after (finished (InNumber start n) at) (begun at b class)
    stops p true r s t u v e = absurd (true≢false e)
    stops true false r s t u v e = refl
    stops false false true s t u v e = refl
    stops false false false true t u v e = refl
    stops false false false false true u v e = refl
    stops false false false false false true v e = refl
    stops false false false false false false true e = refl
    stops false false false false false false false e = refl

-- joining

pub joined_none : (r : Result (List Token) LexError) → joined (Ok []) r ≡ r
joined_none (Ok ts) = refl
joined_none (Err e) = refl

pub joined_last : (r : Result (List Token) LexError) → joined r (Ok []) ≡ r
joined_last (Ok ts) = ap Ok (append-nil ts)
joined_last (Err e) = refl

-- what follows a step at this place
unfoldable pub rest_of : ℕ → List ℕ → List Token × Mode → Result (List Token) LexError
rest_of at bs s = joined (Ok s.0) (lex s.1 (at + 1) bs)

-- tokens that end before a step come before what the rest gives
pub chained_after : (at : ℕ) (bs : List ℕ) (ended : Result (List Token) LexError) (step : Result (List Token × Mode) LexError)
    → chained (after ended step) (rest_of at bs) ≡ joined ended (chained (after (Ok []) step) (rest_of at bs))
unfolding rest_of
chained_after at bs (Err e) step = refl
chained_after at bs (Ok ts) (Err e) = refl
chained_after at bs (Ok ts) (Ok (more, next)) = onto (lex next (at + 1) bs)
  where
    onto : (r : Result (List Token) LexError) → joined (Ok (ts ++ more)) r ≡ joined (Ok ts) (joined (Ok more) r)
    onto (Ok last) = ap Ok (append_assoc ts more last)
    onto (Err e) = refl

pub lex_step : (mode : Mode) (at b : ℕ) (bs : List ℕ) → lex mode at (b ∷ bs) ≡ chained (step_of mode at b (class_of b)) (rest_of at bs)
unfolding rest_of
lex_step mode at b bs = refl

-- a step that ends something goes on as between
pub ends : (mode : Mode) (at b : ℕ) (bs : List ℕ) → step_of mode at b (class_of b) ≡ after (finished mode at) (begun at b (class_of b))
    → lex mode at (b ∷ bs) ≡ joined (finished mode at) (lex Between at (b ∷ bs))
ends mode at b bs e =
    lex_step mode at b bs ∙ ap (λ s. chained s (rest_of at bs)) e ∙ chained_after at bs (finished mode at) (begun at b (class_of b)) ∙
    ap (joined (finished mode at)) (sym (lex_step Between at b bs))

-- a step that only changes the mode
pub goes : (mode next : Mode) (at b : ℕ) (bs : List ℕ) → step_of mode at b (class_of b) ≡ Ok ([], next) → lex mode at (b ∷ bs) ≡ lex next (at + 1) bs
unfolding rest_of
goes mode next at b bs e = lex_step mode at b bs ∙ ap (λ s. chained s (rest_of at bs)) e ∙ joined_none (lex next (at + 1) bs)
