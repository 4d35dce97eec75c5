-- How fields, parities, names and numbers are spelled.
--
--   field_text k        Q, or the prime
--   parity_text s       even or odd
--   names_of p          the names of a presentation's generators, in order of declaration
--   name_text names g   the name of a generator, which count from 1; nothing where there is none
--   is_below_nought c   whether a number is below 0, which residues never are
--   below_text d        / and the denominator, where that isn't 1
--   magnitude_text c    a number without its sign: the decimal numerator, and below_text of its denominator
--   sign_text first b   what stands before a term, by whether it is the first of its sum and whether its number is below 0:
--                       nothing or -, and later + or - between spaces
--   number_text c       a number: - where it is below 0, and its magnitude
use Rattle.std.specs.Prelude.{ℕ, ◌-◌, ℤ, pos, negsuc, unsigned_abs, List, [], ◌++◌, map, get_or, Bool, true, false, nat_eq, if◌then◌else◌, codes, decimal}
use Rattle.fpl_numbers.specs.declared.number.Num.{Num}
use Rattle.fpl_numbers.specs.declared.number.Kind.{Kind}
use Rattle.fpl_numbers.specs.declared.number.Kind.TheVariants.{Rational, Prime}
use Rattle.math_algebra.specs.Tree.{Parity, even, odd}
use Rattle.fpl_model.specs.declared.presentation.Presentation.{Presentation}

abbrev pub field_text : Kind → List ℕ
field_text Rational = codes "Q"
field_text (Prime p) = decimal p

abbrev pub parity_text : Parity → List ℕ
parity_text even = codes "even"
parity_text odd = codes "odd"

abbrev pub names_of : Presentation → List (List ℕ)
names_of p = map (λ g. g.name) p.generators

abbrev pub name_text : (names : List (List ℕ)) → ℕ → List ℕ
name_text names g = get_or names (g - 1) []

abbrev pub is_negative : ℤ → Bool
is_negative (pos n) = false
is_negative (negsuc n) = true

abbrev pub is_below_nought : Num → Bool
is_below_nought c = is_negative c.numerator

abbrev pub below_text : ℕ → List ℕ
below_text d = if nat_eq d 1 then [] else codes "/" ++ decimal d

abbrev pub magnitude_text : Num → List ℕ
magnitude_text c = decimal (unsigned_abs c.numerator) ++ below_text (unsigned_abs c.denominator)

abbrev pub sign_text : (first below : Bool) → List ℕ
sign_text true false = []
sign_text true true = codes "-"
sign_text false false = codes " + "
sign_text false true = codes " - "

abbrev pub number_text : Num → List ℕ
number_text c = sign_text true (is_below_nought c) ++ magnitude_text c
