-- What a number that expressions share stands for.
--
--   number_stored s   the number, which is stored in one of two sizes
use Rattle.fpl_numbers.specs.declared.number.Num.{Num}
use Rattle.fpl_model.specs.declared.scalar.Stored.{Stored}
use Rattle.fpl_model.specs.declared.scalar.Stored.TheVariants.{Small, Large}

abbrev pub number_stored : Stored → Num
number_stored (Small a b) = record { numerator = a; denominator = b }
number_stored (Large n) = n
