-- The bytes of the input language, and its names.
--
--   is_blank b       tab, line feed, carriage return or space
--   is_letter b      A to Z or a to z
--   is_digit b       0 to 9
--   is_word_byte b   a letter, a digit or _
--   is_mark b        one of ; , : = + - * / [ ] ( )
--   is_word word     a letter, then letters, digits and _
--   most_name        the greatest number of bytes of a word, 32
--   reserved         the words that are no names
--   IsName word      a letter, then letters, digits and _, of at most 32 bytes, and not reserved
use Rattle.std.specs.Prelude.{ℕ, ◌≤◌, List, [], ◌∷◌, length, Bool, true, false, ◌||◌, ◌&&◌, ◌==◌, nat_le, codes, IsTrue, Contains}
use Rattle.std.specs.List.{list_all}

abbrev pub is_blank : ℕ → Bool
is_blank b = b == 9 || b == 10 || b == 13 || b == 32

abbrev pub is_letter : ℕ → Bool
is_letter b = (nat_le 65 b && nat_le b 90) || (nat_le 97 b && nat_le b 122)

abbrev pub is_digit : ℕ → Bool
is_digit b = nat_le 48 b && nat_le b 57

abbrev pub is_word_byte : ℕ → Bool
is_word_byte b = is_letter b || is_digit b || b == 95

abbrev pub is_mark : ℕ → Bool
is_mark b = b == 59 || b == 44 || b == 58 || b == 61 || b == 43 || b == 45 || b == 42 || b == 47 || b == 91 || b == 93 || b == 40 || b == 41

abbrev pub most_name : ℕ
most_name = 32

abbrev pub reserved : List (List ℕ)
reserved = codes "field" ∷ codes "even" ∷ codes "odd" ∷ codes "relation" ∷ codes "ideal" ∷ codes "equal" ∷ []

abbrev pub is_word : List ℕ → Bool
is_word [] = false
is_word (b ∷ bs) = is_letter b && list_all is_word_byte bs

pub record IsName (word : List ℕ) : Type 0 where
  pub spelled : IsTrue (is_word word)
  pub short : length word ≤ most_name
  pub free : Contains reserved word → ⊥
