-- How combinations of named things are spelled.
--   is_one: whether its magnitude is 1
--   factor_text: the magnitude of a number and *, where that isn't 1
--   term_text: a term: its sign, the magnitude of its number and * where that isn't 1, and the name
--   none_after, term_or_nothing: a number's place in a combination: its term where the number isn't 0; first says whether no term stands before
--   terms_text: the terms of a row of numbers, the first at the given place, and 0 where no term stands at all
--   combination_text: the combination of a row of numbers
use Rattle.std.specs.Prelude.{ℕ, ◌+◌, unsigned_abs, List, [], ◌∷◌, ◌++◌, Bool, true, false, ◌&&◌, nat_eq, if◌then◌else◌, codes}
use Rattle.fpl_numbers.specs.declared.number.Num.{Num}
use Rattle.fpl_numbers.specs.Numbers.{is_nought}
use Rattle.fpl_spelling.specs.Spelling.{is_below_nought, magnitude_text, sign_text}

abbrev pub is_one : Num → Bool
is_one c = nat_eq (unsigned_abs c.numerator) 1 && nat_eq (unsigned_abs c.denominator) 1

abbrev pub factor_text : Num → List ℕ
factor_text c = if is_one c then [] else magnitude_text c ++ codes "*"

abbrev pub term_text : (first : Bool) → Num → (name : List ℕ) → List ℕ
term_text first c name = sign_text first (is_below_nought c) ++ factor_text c ++ name

abbrev pub none_after : (first : Bool) → Num → Bool
none_after first c = if is_nought c then first else false

abbrev pub term_or_nothing : (name : ℕ → List ℕ) (first : Bool) (place : ℕ) → Num → List ℕ
term_or_nothing name first s c = if is_nought c then [] else term_text first c (name s)

abbrev pub terms_text : (name : ℕ → List ℕ) (first : Bool) (place : ℕ) → List Num → List ℕ
terms_text name first s [] = if first then codes "0" else []
terms_text name first s (c ∷ cs) = term_or_nothing name first s c ++ terms_text name (none_after first c) (s + 1) cs

abbrev pub combination_text : (name : ℕ → List ℕ) → List Num → List ℕ
combination_text name row = terms_text name true 0 row
