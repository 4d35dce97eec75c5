-- Quotients of whole numbers.
--
--   residue_below p a       the residue of a whole number modulo p
--   whole kind a            a whole number as a number of the kind
--   quotient_of kind a b    a / b in the field of the kind, or None where b is 0 there
use Rattle.std.specs.Prelude.{ℕ, ◌-◌, ◌%◌, ℤ, pos, negsuc, Option, Some, None, if◌then◌else◌}
use Rattle.fpl_numbers.specs.declared.number.Num.{Num}
use Rattle.fpl_numbers.specs.declared.number.Kind.{Kind}
use Rattle.fpl_numbers.specs.declared.number.Kind.TheVariants.{Rational, Prime}
use Rattle.fpl_numbers.specs.Numbers.{residue, is_nought, product_of, inverse_of}

-- negsuc n is -(n + 1)
abbrev pub residue_below : ℕ → ℤ → ℕ
residue_below p (pos n) = n % p
residue_below p (negsuc n) = p - 1 - n % p

abbrev pub whole : Kind → ℤ → Num
whole Rational a = record { numerator = a; denominator = pos 1 }
whole (Prime p) a = residue (residue_below p a)

abbrev pub quotient_of : Kind → ℤ → ℤ → Option Num
quotient_of kind a b = if is_nought (whole kind b) then None else Some (product_of kind (whole kind a) (inverse_of kind (whole kind b)))
