-- The terminals of a text have sizes that the text has room for.
use Rattle.std.proofs.Common.{◌≡◌, ℕ, suc, ◌+◌, ◌-◌, ◌*◌, ◌/◌, ◌%◌, ◌^◌, ◌<◌, ◌≤◌, List, [], ◌∷◌, ◌++◌, length, Bool, true, false, ◌==◌, nat_le, nat_lt, IsTrue, Result, if◌then◌else◌, refl, ap, sym, ◌∙◌, subst, arith, length-append}
use Rattle.std.specs.Prelude.{Ok, Err, decimal, codes}
use Rattle.std.specs.List.{list_all}
use Rattle.std.proofs.Math.Nat.{mul-le-mul_right}
use native.Mathlib.Nat.{pow-suc, mod-lt, div-add-mod}
use Rattle.std.specs.Str.{bytes_eq}
use Rattle.std.proofs.lemmas.Bool.{leb-true, ltb-false, and_parts, and_from}
use Rattle.std.proofs.lemmas.Fmt.{decimal_by_steps_wide, decimal_is_IsNumeral_wide, length-decimal-le_wide}
use Rattle.fpl_alphabet.specs.Bytes.{is_digit}
use Rattle.fpl_lex.specs.declared.token.Token.{Token}
use Rattle.fpl_lex.specs.declared.token.TokenKind.TheVariants as kinds
use Rattle.fpl_lex.specs.declared.fault.LexError.{LexError}
use Rattle.fpl_lex.specs.declared.fault.LexError.TheVariants.{NameTooLong, NumberTooLarge}
use Rattle.fpl_lex.specs.Cut.{Form, blank, comment, word, number, mark, other, Piece, IsPiece, IsCut, value_from, value_of, piece_tokens, mark_tokens, token_at, joined, reading_from, Reads}
use Rattle.fpl_numbers.specs.Numbers.{most_number}
use Rattle.fpl_syntax.specs.declared.terminal.Terminal.{Terminal}
use Rattle.fpl_syntax.specs.declared.terminal.Terminal.TheVariants as terminal
use Rattle.fpl_syntax.specs.Sight.{word_of}
use Rattle.fpl_reader.specs.Terminals.{word_terminal, mark_terminal, terminal_of, terminals_of}

-- the least number of bytes that a terminal takes
abbrev pub size : Terminal → ℕ
size (terminal.Name w) = w.end - w.start
size (terminal.Number n) = length (decimal n.value)
size _ = 1

abbrev pub sizes : List Terminal → ℕ
sizes [] = 0
sizes (s ∷ ss) = size s + sizes ss

-- digits

digit_small : (b : ℕ) → IsTrue (is_digit b) → b - 48 ≤ 9
digit_small b h = let s = and_parts (nat_le 48 b) (nat_le b 57) h in omega (arith, leb-true b 57 s.1)

more_digits : (n m d t : ℕ) → d ≤ 9 → m ≤ (10 * n + d + 1) * t → m ≤ (n + 1) * (t * 10)
more_digits n m d t l h =
    let k : (10 * n + d + 1) * t ≤ (10 * n + 10) * t = mul-le-mul_right t (let e : 10 * n + d + 1 ≤ 10 * n + 10 = omega arith in e) in
    let e : (10 * n + 10) * t ≡ (n + 1) * (t * 10) = omega arith in
    omega (arith, h, k, e)

value_bound : (n : ℕ) (ds : List ℕ) → IsTrue (list_all is_digit ds) → value_from n ds + 1 ≤ (n + 1) * 10 ^ length ds
value_bound n [] h = omega arith
value_bound n (b ∷ bs) h =
    let s = and_parts (is_digit b) (list_all is_digit bs) h in
    subst (λ t. value_from n (b ∷ bs) + 1 ≤ (n + 1) * t) (sym (pow-suc 10 (length bs)))
    (more_digits n _ (b - 48) (10 ^ length bs) (digit_small b s.0) (value_bound (10 * n + (b - 48)) bs s.1))

pub decimal_short : (n : ℕ) (ds : List ℕ) → 0 < length ds → IsTrue (list_all is_digit ds) → n ≤ value_of ds → n ≤ most_number → length (decimal n) ≤ length ds
decimal_short n ds some digits below few = length-decimal-le_wide (length ds) n some (let v = value_bound 0 ds digits in omega arith) (omega arith)

-- a lesser number has no more digits

power_above : (n : ℕ) → n < 10 ^ 64 → n + 1 ≤ 10 ^ length (decimal n)
power_above = decimal_by_steps_wide (λ m ds. m + 1 ≤ 10 ^ length ds) (λ m l. omega arith) more
  where
    more : (m : ℕ) (ds : List ℕ) → 10 ≤ m → m / 10 + 1 ≤ 10 ^ length ds → m + 1 ≤ 10 ^ length (ds ++ (48 + m % 10) ∷ [])
    more m ds l h =
        let e : length (ds ++ (48 + m % 10) ∷ []) ≡ suc (length ds) = omega (arith, length-append ds ((48 + m % 10) ∷ [])) in
        let d : 10 * (m / 10) + m % 10 ≡ m = div-add-mod m 10 in
        let r : m % 10 < 10 = mod-lt m (omega arith) in
        subst (λ k. m + 1 ≤ 10 ^ k) (sym e) (subst (λ t. m + 1 ≤ t) (sym (pow-suc 10 (length ds))) (omega arith))

pub digits_up : (m n : ℕ) → m ≤ n → n ≤ most_number → length (decimal m) ≤ length (decimal n)
digits_up m n l few =
    length-decimal-le_wide (length (decimal n)) m (decimal_is_IsNumeral_wide n (omega arith)).0.0 (let h = power_above n (omega arith) in omega arith)
    (omega arith)

-- tokens

module _ (text : List ℕ) where
  either_size : (t : Bool) (a b : Terminal) (n : ℕ) → size a ≤ n → size b ≤ n → size (if t then a else b) ≤ n
  either_size true a b n h k = h
  either_size false a b n h k = k

  word_size : (bytes : List ℕ) (start end n : ℕ) → 1 ≤ n → end - start ≤ n → size (word_terminal bytes start end) ≤ n
  word_size bytes start end n some fits =
      either_size (bytes_eq bytes (codes "field")) _ _ n some
      (either_size (bytes_eq bytes (codes "even")) _ _ n some
      (either_size (bytes_eq bytes (codes "odd")) _ _ n some
      (either_size (bytes_eq bytes (codes "relation")) _ _ n some
      (either_size (bytes_eq bytes (codes "ideal")) _ _ n some
      (either_size (bytes_eq bytes (codes "equal")) _ _ n some fits)))))

  mark_size : (b : ℕ) → size (mark_terminal b) ≤ 1
  mark_size b =
      let one : 1 ≤ 1 = omega arith in
      either_size (b == 59) _ _ 1 one (either_size (b == 44) _ _ 1 one (either_size (b == 58) _ _ 1 one
      (either_size (b == 61) _ _ 1 one (either_size (b == 43) _ _ 1 one (either_size (b == 45) _ _ 1 one
      (either_size (b == 42) _ _ 1 one (either_size (b == 47) _ _ 1 one (either_size (b == 91) _ _ 1 one
      (either_size (b == 93) _ _ 1 one (either_size (b == 40) _ _ 1 one one))))))))))

  -- tokens fit into so many bytes
  abbrev Fit : ℕ → List Token → Type 0
  Fit n us = sizes (terminals_of text us) ≤ n

  sizes-append : (us vs : List Token) → sizes (terminals_of text (us ++ vs)) ≡ sizes (terminals_of text us) + sizes (terminals_of text vs)
  sizes-append [] vs = omega arith
  sizes-append (u ∷ us) vs = omega (arith, sizes-append us vs)

  ok_same : {A : Type 0} {x y : A} → ◌≡◌ {A = Result A LexError} (Ok x) (Ok y) → x ≡ y
  ok_same e = cc

  word_fits : (at : ℕ) (bytes : List ℕ) (us : List Token) (t : Bool) → 1 ≤ length bytes → ◌≡◌ {A = Result (List Token) LexError}
      (if t then Err (NameTooLong at) else Ok (token_at at bytes kinds.Word ∷ [])) (Ok us) → Fit (length bytes) us
  unfolding terminal_of
  word_fits at bytes us true some e = cc
  word_fits at bytes us false some e =
      let w = word_size (word_of text at (at + length bytes)) at (at + length bytes) (length bytes) some (omega arith) in
      subst (Fit (length bytes)) (ok_same e) (omega (arith, w))

  number_fits : (at : ℕ) (bytes : List ℕ) (us : List Token) (t : Bool) → nat_lt most_number (value_of bytes) ≡ t → 1 ≤ length bytes →
      IsTrue (list_all is_digit bytes)
      → ◌≡◌ {A = Result (List Token) LexError} (if t then Err (NumberTooLarge at) else Ok (token_at at bytes (kinds.Number (value_of bytes)) ∷ []))
      (Ok us) → Fit (length bytes) us
  unfolding terminal_of
  number_fits at bytes us true test some digits e = cc
  number_fits at bytes us false test some digits e =
      let few = ltb-false most_number (value_of bytes) test in
      let d = decimal_short (value_of bytes) bytes some digits (omega arith) few in
      subst (Fit (length bytes)) (ok_same e) (omega (arith, d))

  mark_fits : (at b : ℕ) → Fit 1 (mark_tokens at (b ∷ []))
  unfolding terminal_of
  mark_fits at b = omega (arith, mark_size b)

  piece_fits : (at : ℕ) (form : Form) (bytes after : List ℕ) (us : List Token) → IsPiece form bytes after → piece_tokens at form bytes ≡ Ok us →
      Fit (length bytes) us
  piece_fits at blank bytes after us piece e = subst (Fit (length bytes)) (ok_same e) (omega arith)
  piece_fits at comment bytes after us piece e = subst (Fit (length bytes)) (ok_same e) (omega arith)
  piece_fits at word [] after us piece e = elim piece [ ]
  piece_fits at word (b ∷ bs) after us piece e = word_fits at (b ∷ bs) us (nat_lt 32 (length (b ∷ bs))) (omega arith) e
  piece_fits at number [] after us piece e = elim piece [ ]
  piece_fits at number (b ∷ bs) after us piece e = number_fits at (b ∷ bs) us (nat_lt most_number (value_of (b ∷ bs))) refl (omega arith)
      (and_from (is_digit b) (list_all is_digit bs) piece.0 piece.1) e
  piece_fits at mark [] after us piece e = elim piece [ ]
  piece_fits at mark (b ∷ []) after us piece e = subst (Fit 1) (ok_same e) (mark_fits at b)
  piece_fits at mark (b ∷ c ∷ bs) after us piece e = elim piece [ ]
  piece_fits at other bytes after us piece e = cc

  join_fits : (n m : ℕ) (a b : Result (List Token) LexError) (ts : List Token) → ((us : List Token) → a ≡ Ok us → Fit n us) →
      ((vs : List Token) → b ≡ Ok vs → Fit m vs) → joined a b ≡ Ok ts → Fit (n + m) ts
  join_fits n m (Ok us) (Ok vs) ts h k e = subst (Fit (n + m)) (ok_same e) (omega (arith, sizes-append us vs, h us refl, k vs refl))
  join_fits n m (Ok us) (Err f) ts h k e = cc
  join_fits n m (Err f) b ts h k e = cc

  cut_fits : (ps : List Piece) (at : ℕ) (rest : List ℕ) (ts : List Token) → IsCut rest ps → reading_from at ps ≡ Ok ts → Fit (length rest) ts
  cut_fits [] at rest ts cut e = subst (Fit (length rest)) (ok_same e) (omega arith)
  cut_fits (p ∷ ps) at rest ts (after, whole, piece, cut) e =
      subst (λ n. Fit n ts) (sym (length-append p.bytes after) ∙ sym (ap length whole))
      (join_fits (length p.bytes) (length after) (piece_tokens at p.form p.bytes) (reading_from (at + length p.bytes) ps) ts
      (λ us h. piece_fits at p.form p.bytes after us piece h) (λ vs h. cut_fits ps (at + length p.bytes) after vs cut h) e)

-- the terminals of a text take no more bytes than it has
pub text_sizes : (text : List ℕ) (ts : List Token) → Reads text (Ok ts) → sizes (terminals_of text ts) ≤ length text
text_sizes text ts r = cut_fits text r.pieces 0 text ts r.cut r.read
