-- Tests of kinds.
--
--   is_field kind   whether the kind has a field
use Rattle.std.specs.Prelude.{Bool, true}
use Rattle.fpl_numbers.specs.declared.number.Kind.{Kind}
use Rattle.fpl_numbers.specs.declared.number.Kind.TheVariants.{Rational, Prime}
use Rattle.fpl_numbers.specs.Numbers.{is_listed}

abbrev pub is_field : Kind → Bool
is_field Rational = true
is_field (Prime p) = is_listed p
