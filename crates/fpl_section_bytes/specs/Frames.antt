-- The frame of a section: where its payload stands.
--
--   frame_of bytes at w   the payload's range of the section that begins at a place, the dropped tail where it isn't all there,
--                         or SectionWeight where it is whole and its weight isn't w
--   LiesIn at len frame   a payload begins after the 12 bytes at the place, and lies in so many bytes
use Rattle.std.specs.Prelude.{◌≡◌, ◌≤◌, ℕ, ◌+◌, List, length, drop, nat_lt, ◌==◌, Option, Some, None, Result, Ok, Err, if◌then◌else◌}
use Rattle.std.specs.Int.{w32, w64}
use Rattle.fpl_bytes.specs.declared.fault.ByteWhy.TheVariants.{SectionWeight}
use Rattle.fpl_bytes.specs.declared.fault.BadBytes.{BadBytes}
use Rattle.fpl_bytes.specs.Reading.{raw_at}
use Rattle.fpl_section_bytes.specs.declared.frame.Frame.{Frame}
use Rattle.fpl_section_bytes.specs.declared.frame.Frame.TheVariants.{Whole, Tail}

-- the section at a place, from its weight, its length and what stands after them
abbrev pub frame_at : ℕ → ℕ → ℕ → ℕ × List ℕ → Result Frame BadBytes
frame_at at w weight (size, rest) =
    if nat_lt (length rest) size then Ok Tail
    else if weight == w then Ok (Whole (at + 12) (at + 12 + size))
    else Err (record { place = at; why = SectionWeight })

abbrev pub sized_at : ℕ → ℕ → ℕ → Option (ℕ × List ℕ) → Result Frame BadBytes
sized_at at w weight None = Ok Tail
sized_at at w weight (Some x) = frame_at at w weight x

abbrev pub weighed_at : ℕ → ℕ → Option (ℕ × List ℕ) → Result Frame BadBytes
weighed_at at w None = Ok Tail
weighed_at at w (Some x) = sized_at at w x.0 (raw_at w64 x.1)

abbrev pub frame_of : List ℕ → ℕ → ℕ → Result Frame BadBytes
frame_of bytes at w = weighed_at at w (raw_at w32 (drop at bytes))

abbrev pub LiesIn : ℕ → ℕ → Frame → Type 0
LiesIn at len (Whole from to) = (from ≡ at + 12) × (from ≤ to) × (to ≤ len)
LiesIn at len Tail = Unit {0}
