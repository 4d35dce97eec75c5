-- A number in decimal is a piece of digits with its value.
use Rattle.std.proofs.Common.{◌≡◌, ℕ, ◌+◌, ◌-◌, ◌*◌, ◌/◌, ◌%◌, ◌≤◌, ◌<◌, List, [], ◌∷◌, ◌++◌, true, nat_le, IsTrue, refl, ap, ◌∙◌, arith}
use Rattle.std.specs.Prelude.{decimal}
use Rattle.std.specs.List.{list_all}
use native.Mathlib.Nat.{mod-lt, div-add-mod}
use Rattle.std.proofs.lemmas.Bool.{le-leb, and_parts, and_from}
use Rattle.std.proofs.lemmas.Fmt.{decimal_by_steps_wide}
use Rattle.fpl_alphabet.specs.Bytes.{is_digit}
use Rattle.fpl_lex.specs.Cut.{number, Stops, IsPiece, value_from, value_of}
use Rattle.fpl_numbers.specs.Numbers.{most_number}

abbrev AreDigits : List ℕ → Type 0
AreDigits [] = ⊥
AreDigits (b ∷ bs) = IsTrue (is_digit b) × IsTrue (list_all is_digit bs)

digits_piece : (ds after : List ℕ) → AreDigits ds → Stops is_digit after → IsPiece number ds after
digits_piece [] after h stops = elim h [ ]
digits_piece (b ∷ bs) after h stops = (h.0, h.1, stops)

value_from-append : (n : ℕ) (ds : List ℕ) (b : ℕ) → value_from n (ds ++ b ∷ []) ≡ 10 * value_from n ds + (b - 48)
value_from-append n [] b = refl
value_from-append n (d ∷ ds) b = value_from-append (10 * n + (d - 48)) ds b

all-append : (ds : List ℕ) (b : ℕ) → IsTrue (list_all is_digit ds) → IsTrue (is_digit b) → IsTrue (list_all is_digit (ds ++ b ∷ []))
all-append [] b h k = and_from (is_digit b) true k refl
all-append (d ∷ ds) b h k = let s = and_parts (is_digit d) (list_all is_digit ds) h in and_from (is_digit d) (list_all is_digit (ds ++ b ∷ [])) s.0
    (all-append ds b s.1 k)

digits-append : (ds : List ℕ) (b : ℕ) → AreDigits ds → IsTrue (is_digit b) → AreDigits (ds ++ b ∷ [])
digits-append [] b h k = elim h [ ]
digits-append (d ∷ ds) b h k = (h.0, all-append ds b h.1 k)

digit_is : (m : ℕ) → m < 10 → IsTrue (is_digit (48 + m))
digit_is m l = and_from (nat_le 48 (48 + m)) (nat_le (48 + m) 57) (le-leb 48 (48 + m) (omega arith)) (le-leb (48 + m) 57 (omega arith))

record Writes (n : ℕ) (ds : List ℕ) : Type 0 where
  digits : AreDigits ds
  value : value_of ds ≡ n

one_digit : (n : ℕ) → n < 10 → Writes n ((48 + n) ∷ [])
one_digit n l = record { digits = (digit_is n l, refl); value = let e : 10 * 0 + (48 + n - 48) ≡ n = omega arith in e }

one_more : (n : ℕ) (ds : List ℕ) → 10 ≤ n → Writes (n / 10) ds → Writes n (ds ++ (48 + n % 10) ∷ [])
one_more n ds l w =
    let m : n % 10 < 10 = mod-lt n (omega arith) in
    let d : 10 * (n / 10) + n % 10 ≡ n = div-add-mod n 10 in
    let e : 10 * (n / 10) + (48 + n % 10 - 48) ≡ n = omega arith in
    record {
      digits = digits-append ds (48 + n % 10) w.digits (digit_is (n % 10) m);
      value =
          value_from-append 0 ds (48 + n % 10) ∙ ap (λ v. 10 * v + (48 + n % 10 - 48)) w.value ∙ e;
    }

written : (n : ℕ) → n ≤ most_number → Writes n (decimal n)
written n few = decimal_by_steps_wide Writes one_digit one_more n (omega arith)

pub decimal_piece : (n : ℕ) (after : List ℕ) → n ≤ most_number → Stops is_digit after → IsPiece number (decimal n) after
decimal_piece n after few stops = digits_piece (decimal n) after (written n few).digits stops

pub decimal_value : (n : ℕ) → n ≤ most_number → value_of (decimal n) ≡ n
decimal_value n few = (written n few).value
