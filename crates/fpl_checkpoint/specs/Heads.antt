-- The head of a checkpoint as bytes.
--
--   VERSION                 the version that is written
--   checkpoint_mark         the first byte of a checkpoint, which begins no text
--   head_bytes_of n p       the mark, the letters FPL, the version n, how many bytes the canonical text has in 4 bytes, the text
--   head_text bytes         the version and the text of a head, or the first of the tests of its bytes that fails
use Rattle.std.specs.Prelude.{ℕ, List, ◌∷◌, ◌++◌, length, take, drop, slice_index_or, ◌==◌, ◌&&◌, ◌||◌, nat_lt, Option, Some, None, Result, Ok, Err, if◌then◌else◌}
use Rattle.std.specs.Int.{w32, to_be_bytes}
use Rattle.fpl_model.specs.declared.presentation.Presentation.{Presentation}
use Rattle.fpl_canonical.specs.Canonical.{canonical_of}
use Rattle.fpl_bytes.specs.declared.fault.ByteWhy.{ByteWhy}
use Rattle.fpl_bytes.specs.declared.fault.ByteWhy.TheVariants.{NotCheckpoint, HeadCut, UnknownVersion}
use Rattle.fpl_bytes.specs.declared.fault.BadBytes.{BadBytes}
use Rattle.fpl_bytes.specs.Reading.{raw_at}

abbrev pub VERSION : ℕ
VERSION = 2

abbrev pub checkpoint_mark : ℕ
checkpoint_mark = 0xf1

abbrev pub with_text : ℕ → List ℕ → List ℕ
with_text n text = checkpoint_mark ∷ 0x46 ∷ 0x50 ∷ 0x4c ∷ n ∷ (to_be_bytes w32 (length text) ++ text)

abbrev pub head_bytes_of : ℕ → Presentation → List ℕ
head_bytes_of n p = with_text n (canonical_of p)

abbrev pub byte : List ℕ → ℕ → ℕ
byte bytes i = slice_index_or bytes i 0

abbrev pub bad : ℕ → ByteWhy → Result (ℕ × List ℕ) BadBytes
bad place why = Err (record { place = place; why = why })

abbrev pub text_at : List ℕ → Option (ℕ × List ℕ) → Result (ℕ × List ℕ) BadBytes
text_at bytes None = bad (length bytes) HeadCut
text_at bytes (Some x) = if nat_lt (length x.1) x.0 then bad (length bytes) HeadCut else Ok (byte bytes 4, take x.0 x.1)

abbrev pub sized : List ℕ → Result (ℕ × List ℕ) BadBytes
sized bytes = text_at bytes (raw_at w32 (drop 5 bytes))

abbrev pub versioned : List ℕ → Result (ℕ × List ℕ) BadBytes
versioned bytes = if byte bytes 4 == 1 || byte bytes 4 == 2 then sized bytes else bad 4 UnknownVersion

abbrev pub named : List ℕ → Result (ℕ × List ℕ) BadBytes
named bytes = if byte bytes 1 == 0x46 && byte bytes 2 == 0x50 && byte bytes 3 == 0x4c then versioned bytes else bad 1 NotCheckpoint

abbrev pub led : List ℕ → Result (ℕ × List ℕ) BadBytes
led bytes = if nat_lt (length bytes) 9 then bad (length bytes) HeadCut else named bytes

unfoldable pub head_text : List ℕ → Result (ℕ × List ℕ) BadBytes
head_text bytes = if byte bytes 0 == checkpoint_mark then led bytes else bad 0 NotCheckpoint
