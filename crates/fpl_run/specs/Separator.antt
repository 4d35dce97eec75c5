-- The line that separates a presentation from its matrices. Places count bytes from 0.
--   IsLineAt bytes at: a line begins there: the first one, or one after a line feed
--   IsSeparatorAt bytes at: a line that is exactly %% begins there; it ends before a line feed, or with the bytes
--   IsFirstSeparator bytes at: the first such line
--   HasNoSeparator bytes: there is none
--   after_separator bytes at: where the text of the matrices begins: after the line feed of that line, or at the end of the bytes
--   IsTextOf way bytes text: what is read as the presentation: where matrices are taken, the bytes before the first separating line, or all where there is
--   none; else all
use Rattle.std.specs.Prelude.{ℕ, ◌≡◌, ◌≤◌, ◌<◌, ◌+◌, ◌-◌, ◌⊎◌, List, length, take, min, slice_index}
use Rattle.fpl_run.specs.declared.task.Way.{Way}
use Rattle.fpl_run.specs.declared.task.Way.TheVariants.{Show, Write, Check, Rank, Prove}

abbrev pub IsLineAt : List ℕ → ℕ → Type 0
IsLineAt bytes at = (at ≡ 0) ⊎ ((1 ≤ at) × (slice_index bytes (at - 1) ≡ 10))

pub record IsSeparatorAt (bytes : List ℕ) (at : ℕ) : Type 0 where
  pub begins : IsLineAt bytes at
  pub room : at + 2 ≤ length bytes
  pub first : slice_index bytes at ≡ 37
  pub second : slice_index bytes (at + 1) ≡ 37
  pub ends : (at + 2 ≡ length bytes) ⊎ (slice_index bytes (at + 2) ≡ 10)

pub record IsFirstSeparator (bytes : List ℕ) (at : ℕ) : Type 0 where
  pub is : IsSeparatorAt bytes at
  pub before : (i : ℕ) → i < at → IsSeparatorAt bytes i → ⊥

abbrev pub HasNoSeparator : List ℕ → Type 0
HasNoSeparator bytes = (i : ℕ) → IsSeparatorAt bytes i → ⊥

abbrev pub after_separator : List ℕ → ℕ → ℕ
after_separator bytes at = min (at + 3) (length bytes)

pub data IsTextBefore (bytes : List ℕ) : List ℕ → Type 0 where
  before : (at : ℕ) → IsFirstSeparator bytes at → IsTextBefore bytes (take at bytes)
  whole : HasNoSeparator bytes → IsTextBefore bytes bytes

abbrev pub IsTextOf : Way → (bytes text : List ℕ) → Type 0
IsTextOf (Show v) bytes text = text ≡ bytes
IsTextOf Write bytes text = text ≡ bytes
IsTextOf Check bytes text = text ≡ bytes
IsTextOf Rank bytes text = IsTextBefore bytes text
IsTextOf Prove bytes text = text ≡ bytes
