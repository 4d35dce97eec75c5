-- Lists whose items mostly have a small form.
--
--   whole n                  the whole number n as a number
--   items_in widened form    the items that a list keeps, in either form
use Rattle.std.specs.Prelude.{ℤ, pos, List, map}
use Rattle.fpl_numbers.specs.declared.number.Num.{Num}
use Rattle.fpl_log.specs.declared.compact.Form.{Form}
use Rattle.fpl_log.specs.declared.compact.Form.TheVariants.{Small, Wide}

abbrev pub whole : ℤ → Num
whole n = record { numerator = n; denominator = pos 1 }

abbrev pub items_in : {T S : Type 0} → (S → T) → Form T S → List T
items_in widened (Small items) = map widened items.items
items_in widened (Wide items) = items.items
