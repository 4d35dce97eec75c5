-- Reasons in words.
--
--   reason_text   why a text is no presentation
use Rattle.std.specs.Prelude.{ℕ, List, codes}
use Rattle.fpl_reader.specs.declared.fault.Reason.{Reason}
use Rattle.fpl_reader.specs.declared.fault.Reason.TheVariants.{BadByte, NumberTooLarge, NameTooLong, TooDeep, Syntax, NoField, FieldTwice, BadPrime}
use Rattle.fpl_reader.specs.declared.fault.Reason.TheVariants.{NameTwice, BadWeight, TooManyGenerators, UnknownName, ZeroDenominator, MixedWeight, MixedParity}

abbrev pub reason_text : Reason → List ℕ
reason_text BadByte = codes "bad byte"
reason_text NumberTooLarge = codes "number too large"
reason_text NameTooLong = codes "name too long"
reason_text TooDeep = codes "nesting too deep"
reason_text (Syntax token) = codes "syntax"
reason_text NoField = codes "no field"
reason_text FieldTwice = codes "field twice"
reason_text BadPrime = codes "prime not in the list"
reason_text NameTwice = codes "name twice"
reason_text BadWeight = codes "weight outside 1 to 1000"
reason_text TooManyGenerators = codes "more than 64 generators"
reason_text UnknownName = codes "unknown name"
reason_text ZeroDenominator = codes "zero denominator"
reason_text MixedWeight = codes "mixed weight"
reason_text MixedParity = codes "mixed parity"
