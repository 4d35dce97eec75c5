-- Exact numbers of either kind, of any size; which of them fit; and what an operation answers.
--
--   accepted_primes       the accepted primes, ascending
--   IsListed p            p is one of them
--   is_listed p           the test for it
--   IsField kind          the fractions, or the residues modulo an accepted prime
--   residue n             the residue n as a number
--   residue_of a          the residue that a number is
--   IsNumber kind a       a is canonical: a residue below the prime, or a fraction in lowest terms over a positive denominator
--   most_number           the greatest magnitude that fits, 2^127 - 1
--   Fits kind a           numerator and denominator are at most that
--   IsElement kind a      a is canonical, and fits
--   is_nought a           a is 0
--   sum_of, product_of    the exact sum and product
--   negative_of           the negative
--   inverse_of            the inverse of a number that is not 0
--   fits kind op a b      the operation fits: a residue's always; a product where its result does; a sum where also what stands on the way does
--   IsSmall a             numerator and denominator are below 2^63
--   operate kind op a b   the exact result, or the operation with its operands where it does not fit
use Rattle.std.specs.Prelude.{◌≡◌, ℕ, zero, suc, ◌+◌, ◌-◌, ◌*◌, ◌%◌, ◌/◌, ◌^◌, ◌<◌, ◌≤◌, Bool, true, false, cond, ◌&&◌, nat_le, nat_eq, if◌then◌else◌, List, [], ◌∷◌, ◌==◌, ℤ, pos, negsuc, unsigned_abs, ◌+ℤ◌, ◌*ℤ◌, neg_ℤ, ◌<ℤ◌, Result, Ok, Err, Contains}
use Rattle.std.specs.Int.{IsGcd}
use Rattle.std.specs.List.{list_any}
use Rattle.math_fields.specs.Gcd.{gcd}
use Rattle.fpl_numbers.specs.declared.number.Num.{Num}
use Rattle.fpl_numbers.specs.declared.number.Kind.{Kind}
use Rattle.fpl_numbers.specs.declared.number.Kind.TheVariants.{Rational, Prime}
use Rattle.fpl_numbers.specs.declared.number.Op.{Op}
use Rattle.fpl_numbers.specs.declared.number.Op.TheVariants.{Add, Mul}
use Rattle.fpl_numbers.specs.declared.number.Unfit.{Unfit}

abbrev pub accepted_primes : List ℕ
accepted_primes = 3 ∷ 5 ∷ 7 ∷ 11 ∷ 13 ∷ 17 ∷ 19 ∷ 23 ∷ 29 ∷ 31 ∷ 101 ∷ 251 ∷ 10007 ∷ 32003 ∷ 65521 ∷ []

abbrev pub IsListed : ℕ → Type 0
IsListed p = Contains accepted_primes p

abbrev pub is_listed : ℕ → Bool
is_listed p = list_any (λ q. p == q) accepted_primes

abbrev pub IsField : Kind → Type 0
IsField Rational = Unit {0}
IsField (Prime p) = IsListed p

abbrev pub residue : ℕ → Num
residue n = record { numerator = pos n; denominator = pos 1 }

abbrev pub residue_of : Num → ℕ
residue_of a = unsigned_abs a.numerator

-- a fraction in lowest terms over a positive denominator
pub record IsLowest (a : Num) : Type 0 where
  pub positive : pos 0 <ℤ a.denominator
  pub lowest : IsGcd (unsigned_abs a.numerator) (unsigned_abs a.denominator) 1

abbrev pub IsNumber : Kind → Num → Type 0
IsNumber Rational a = IsLowest a
IsNumber (Prime p) a = (residue_of a < p) × (a ≡ residue (residue_of a))

abbrev pub most_number : ℕ
most_number = 2 ^ 127 - 1

abbrev pub Fits : Kind → Num → Type 0
Fits Rational a = (unsigned_abs a.numerator ≤ most_number) × (unsigned_abs a.denominator ≤ most_number)
Fits (Prime p) a = Unit {0}

abbrev pub IsElement : Kind → Num → Type 0
IsElement kind a = IsNumber kind a × Fits kind a

abbrev pub is_zero_int : ℤ → Bool
is_zero_int (pos n) = nat_eq n 0
is_zero_int (negsuc n) = false

abbrev pub is_nought : Num → Bool
is_nought a = is_zero_int a.numerator

-- a whole number divided by a positive one that divides it
abbrev pub divided : ℤ → ℕ → ℤ
divided (pos n) d = pos (n / d)
divided (negsuc n) d = neg_ℤ (pos (suc n / d))

-- n/d in lowest terms
abbrev pub reduced : ℤ → ℕ → Num
reduced n d = record { numerator = divided n (gcd (unsigned_abs n) d); denominator = pos (d / gcd (unsigned_abs n) d) }

-- the sum of two fractions, as it is formed: with g the greatest common divisor of the denominators, the two numerators over the
-- common denominator, their sum, and that sum's greatest common divisor with g, by which it is reduced
abbrev pub common : Num → Num → ℕ
common a b = gcd (unsigned_abs a.denominator) (unsigned_abs b.denominator)

abbrev pub left_part : Num → Num → ℤ
left_part a b = a.numerator *ℤ pos (unsigned_abs b.denominator / common a b)

abbrev pub right_part : Num → Num → ℤ
right_part a b = b.numerator *ℤ pos (unsigned_abs a.denominator / common a b)

abbrev pub both_parts : Num → Num → ℤ
both_parts a b = left_part a b +ℤ right_part a b

abbrev pub shared : Num → Num → ℕ
shared a b = gcd (unsigned_abs (both_parts a b)) (common a b)

abbrev pub sum_below : Num → Num → ℕ
sum_below a b = (unsigned_abs a.denominator / common a b) * (unsigned_abs b.denominator / shared a b)

abbrev pub fraction_sum : Num → Num → Num
fraction_sum a b = record { numerator = divided (both_parts a b) (shared a b); denominator = pos (sum_below a b) }

abbrev pub fraction_product : Num → Num → Num
fraction_product a b = reduced (a.numerator *ℤ b.numerator) (unsigned_abs a.denominator * unsigned_abs b.denominator)

abbrev pub sum_of : Kind → Num → Num → Num
sum_of Rational a b = fraction_sum a b
sum_of (Prime p) a b = residue ((residue_of a + residue_of b) % p)

abbrev pub product_of : Kind → Num → Num → Num
product_of Rational a b = fraction_product a b
product_of (Prime p) a b = residue ((residue_of a * residue_of b) % p)

abbrev pub negative_of : Kind → Num → Num
negative_of Rational a = record { numerator = neg_ℤ a.numerator; denominator = a.denominator }
negative_of (Prime p) a = residue ((p - residue_of a) % p)

-- the x below n with a * x congruent to 1 modulo p, or 0 where there is none
abbrev pub inverse_below : ℕ → ℕ → ℕ → ℕ
inverse_below p a zero = 0
inverse_below p a (suc x) = if nat_eq ((a * x) % p) 1 then x else inverse_below p a x

abbrev pub inverted : ℤ → ℤ → Num
inverted (pos n) d = record { numerator = d; denominator = pos n }
inverted (negsuc n) d = record { numerator = neg_ℤ d; denominator = pos (suc n) }

abbrev pub inverse_of : Kind → Num → Num
inverse_of Rational a = inverted a.numerator a.denominator
inverse_of (Prime p) a = residue (inverse_below p (residue_of a) p)

abbrev pub result_of : Kind → Op → Num → Num → Num
result_of kind Add a b = sum_of kind a b
result_of kind Mul a b = product_of kind a b

abbrev pub is_within : ℤ → Bool
is_within n = nat_le (unsigned_abs n) most_number

abbrev pub fraction_fits : Op → Num → Num → Bool
fraction_fits Add a b = is_within (left_part a b) && is_within (right_part a b) && is_within (both_parts a b) && nat_le (sum_below a b) most_number
fraction_fits Mul a b = is_within (fraction_product a b).numerator && is_within (fraction_product a b).denominator

abbrev pub fits : Kind → Op → Num → Num → Bool
fits Rational op a b = fraction_fits op a b
fits (Prime p) op a b = true

abbrev pub IsSmall : Num → Type 0
IsSmall a = (unsigned_abs a.numerator < 2 ^ 63) × (unsigned_abs a.denominator < 2 ^ 63)

abbrev pub operate : Kind → Op → Num → Num → Result Num Unfit
operate kind op a b = if fits kind op a b then Ok (result_of kind op a b) else Err (record { op = op; a = a; b = b })
