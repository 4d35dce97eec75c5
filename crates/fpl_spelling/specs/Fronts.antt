-- What stands in front of a text to which a call appends, also where it fails for want of memory.
--
--   IsFrontOf front text   the text starts with these bytes
--   KeepsFront old new     what was there stays in front: each front of the old text is one of the new
use Rattle.std.specs.Prelude.{ℕ, List}
use Rattle.std.specs.Io.{StartsWith}

unfoldable pub IsFrontOf : (front text : List ℕ) → Type 0
IsFrontOf front text = StartsWith text front

abbrev pub KeepsFront : (old new : List ℕ) → Type 0
KeepsFront old new = (front : List ℕ) → IsFrontOf front old → IsFrontOf front new
