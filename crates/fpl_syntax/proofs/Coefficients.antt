-- What the quotient of a scope's field needs.
use Rattle.std.proofs.Common.{ℕ, ◌≤◌, Bool, true, false, IsTrue, suc, zero}
use Rattle.std.specs.Prelude.{unsigned_abs}
use Rattle.fpl_numbers.proofs.Listed.{listed_is}
use Rattle.fpl_numbers.specs.declared.number.Kind.{Kind}
use Rattle.fpl_numbers.specs.declared.number.Kind.TheVariants.{Rational, Prime}
use Rattle.fpl_numbers.specs.Numbers.{IsField, most_number}
use Rattle.fpl_syntax.specs.Kinds.{is_field}
use Rattle.fpl_syntax.specs.Grammar.{signed}

pub known_field : (kind : Kind) → IsTrue (is_field kind) → IsField kind
known_field Rational e = tt
known_field (Prime p) e = listed_is p e

pub signed_small : (negative : Bool) (a : ℕ) → a ≤ most_number → unsigned_abs (signed negative a) ≤ most_number
signed_small false a h = h
signed_small true zero h = h
signed_small true (suc a) h = h
