-- How the numbers of a field are written.
--
--   if_same                 the first where a test holds, else the second
--   residue_below k n c     the greatest residue below n that stands for the number c of the field of kind k, or 0
--   numeral k c             the residue below the prime that stands for c; a fraction isn't written
use Rattle.std.specs.Prelude.{ℕ, zero, suc}
use Rattle.math_fields.specs.Field.{Field}
use Rattle.fpl_numbers.specs.declared.number.Num.{Num}
use Rattle.fpl_numbers.specs.declared.number.Kind.{Kind}
use Rattle.fpl_numbers.specs.declared.number.Kind.TheVariants.{Rational, Prime}
use Rattle.fpl_numbers.specs.Numbers.{residue}
use Rattle.fpl_numbers.specs.Kinds.{Number, field_of, number_of}

abbrev pub if_same : {A : Type 0} → Dec A → ℕ → ℕ → ℕ
if_same (yes e) m n = m
if_same (no d) m n = n

unfoldable pub residue_below : (k : Kind) → ℕ → Number k → ℕ
residue_below k zero c = 0
residue_below k (suc n) c = if_same ((field_of k).same (number_of k (residue n)) c) n (residue_below k n c)

unfoldable pub numeral : (k : Kind) → Number k → Num
numeral (Prime p) c = residue (residue_below (Prime p) p c)
numeral Rational c = residue 0
