-- What a source and a sink do, call by call.
--   Rose: a count of faults went up in a call, or stands at its last value
--   Gives: the bytes left begin with these bytes, which the source loses
--   Takes: these bytes are appended to the bytes taken
--   Reads: what one read does to the bytes left
--   Puts: what one put does to the bytes taken
use Rattle.std.specs.Prelude.{◌≡◌, ℕ, ◌-◌, ◌^◌, ◌<◌, ◌≤◌, ◌⊎◌, List, length, take}
use Rattle.std.specs.declared.option.Option.{Option}
use Rattle.std.specs.Io.KnownBytes.{prepend_known, append_known, IsAtEnd}
use Rattle.fpl_outside.specs.declared.outside.Got.{Got}
use Rattle.fpl_outside.specs.declared.outside.Got.TheVariants as got
use Rattle.fpl_outside.specs.declared.outside.Put.{Put}
use Rattle.fpl_outside.specs.declared.outside.Put.TheVariants as put

abbrev pub Rose : ℕ → ℕ → Type 0
Rose before now = (before < now) ⊎ (now ≡ 2 ^ 64 - 1)

-- a source that doesn't tell its bytes tells none after it either
abbrev pub Gives : Option (List ℕ) → Option (List ℕ) → List ℕ → Type 0
Gives old new bytes = old ≡ prepend_known bytes new

abbrev pub Takes : Option (List ℕ) → Option (List ℕ) → List ℕ → Type 0
Takes old new bytes = new ≡ append_known old bytes

-- the buffer's first n bytes are the next bytes left; the end changes nothing, and a fault loses nothing
abbrev pub Reads : Option (List ℕ) → Option (List ℕ) → List ℕ → Got → Type 0
Reads old new buf (got.Read n) = (1 ≤ n) × (n ≤ length buf) × Gives old new (take n buf)
Reads old new buf got.End = IsAtEnd old × (new ≡ old)
Reads old new buf got.Failed = new ≡ old

-- the piece's first n bytes are appended; a fault appends nothing
abbrev pub Puts : Option (List ℕ) → Option (List ℕ) → List ℕ → Put → Type 0
Puts old new piece (put.Took n) = (1 ≤ n) × (n ≤ length piece) × Takes old new (take n piece)
Puts old new piece put.Failed = new ≡ old
