-- The field of each kind, and the number of it that a plain number stands for.
--
--   Known p                    what is known of p: that it is an odd prime, or nothing
--   accepted_are_odd_primes    each accepted prime passes the test of odd primes
--   known_if, known p          that p is an odd prime, where it is accepted
--   field_if, field_of k       the residues modulo an accepted prime, or the fractions
--   Number k                   its numbers
--   up_part, down_part         natural numbers of which a whole number is the difference
--   residue_in p               the residue modulo p that a number stands for
--   number_of k a              the number that a stands for
--
-- A prime that is not accepted has no field of its own here: field_of gives the fractions. Contracts speak of kinds of which IsField holds.
use Rattle.std.specs.Prelude.{◌≡◌, Bool, true, false, ℕ, ℤ, pos, negsuc, suc, pred, ◌<◌, unsigned_abs}
use mathlib.Core.Path.{refl}
use Rattle.std.specs.List.{list_all}
use Rattle.math_fields.specs.Field.{Field}
use Rattle.math_fields.specs.Primes.{IsPrime}
use Rattle.math_fields.specs.Normal.{of_raw}
use Rattle.math_fields.proofs.Primes.{is_odd_prime, none_divides, listed_odd_prime}
use Rattle.fpl_numbers.specs.declared.number.Num.{Num}
use Rattle.fpl_numbers.specs.declared.number.Kind.{Kind}
use Rattle.fpl_numbers.specs.declared.number.Kind.TheVariants.{Rational, Prime}
use Rattle.fpl_numbers.specs.Fields.{field_of_normal, residue_normal, fraction_normal}
use Rattle.fpl_numbers.specs.Numbers.{accepted_primes, is_listed, residue_of}

pub data Known (p : ℕ) : Type 0 where
  accepted : IsPrime p → 2 < p → Known p
  unknown : Known p

-- by division by the numbers up to 256
pub accepted_are_odd_primes : list_all is_odd_prime accepted_primes ≡ true
unfolding is_odd_prime none_divides
accepted_are_odd_primes = refl

abbrev pub known_if : (p : ℕ) (b : Bool) → is_listed p ≡ b → Known p
known_if p true e = accepted (listed_odd_prime accepted_primes accepted_are_odd_primes p e).0 (listed_odd_prime accepted_primes accepted_are_odd_primes p e).1
known_if p false e = unknown

abbrev pub known : (p : ℕ) → Known p
known p = known_if p (is_listed p) refl

abbrev pub field_if : (p : ℕ) → Known p → Field
field_if p (accepted h l) = field_of_normal (residue_normal p h l)
field_if p unknown = field_of_normal fraction_normal

unfoldable pub field_of : Kind → Field
field_of Rational = field_of_normal fraction_normal
field_of (Prime p) = field_if p (known p)

abbrev pub Number : Kind → Type 0
Number k = (field_of k).Carrier

abbrev pub up_part : ℤ → ℕ
up_part (pos n) = n
up_part (negsuc n) = 0

abbrev pub down_part : ℤ → ℕ
down_part (pos n) = 0
down_part (negsuc n) = suc n

unfoldable pub residue_in : (p : ℕ) (l : Known p) → Num → (field_if p l).Carrier
unfolding field_of_normal residue_normal fraction_normal
residue_in p (accepted h l) a = of_raw (residue_normal p h l) (residue_of a)
residue_in p unknown a = of_raw fraction_normal (0, (0, 0))

unfoldable pub number_of : (k : Kind) → Num → Number k
unfolding field_of field_of_normal fraction_normal
number_of Rational a = of_raw fraction_normal (up_part a.numerator, (down_part a.numerator, pred (unsigned_abs a.denominator)))
number_of (Prime p) a = residue_in p (known p) a
