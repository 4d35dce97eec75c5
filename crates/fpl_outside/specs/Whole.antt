-- What stands after a whole reading or writing was refused.
--   LostWithin: at most max bytes were read and are lost
--   PassedMax: a piece of one read, at most 4096 bytes, passed max bytes, and no read followed it
--   WrotePrefix: a prefix of the bytes was appended
use Rattle.std.specs.Prelude.{ℕ, ◌+◌, ◌<◌, ◌≤◌, List, ◌++◌, length, take}
use Rattle.std.specs.declared.option.Option.{Option}
use Rattle.fpl_outside.specs.Outside.{Gives, Takes}

pub record LostWithin (old new : Option (List ℕ)) (max : ℕ) : Type 0 where
  pub bytes : List ℕ
  pub gives : Gives old new bytes
  pub within : length bytes ≤ max

-- the front is what the reads before the last gave, and the piece is what the last gave
pub record PassedMax (old new : Option (List ℕ)) (max : ℕ) : Type 0 where
  pub front : List ℕ
  pub piece : List ℕ
  pub gives : Gives old new (front ++ piece)
  pub below : length front ≤ max
  pub passed : max < length front + length piece
  pub last : length piece ≤ 4096

pub record WrotePrefix (old new : Option (List ℕ)) (bytes : List ℕ) : Type 0 where
  pub count : ℕ
  pub within : count ≤ length bytes
  pub takes : Takes old new (take count bytes)
