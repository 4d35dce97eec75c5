-- The greatest symbols of rows, as code keeps them.
--
--   marked marks s         symbol s, counted from 1, is marked
--   is_clear marks lead t  the symbol at place t, counted from 0, is lead, or not marked
--   IsMarking n rows marks n marks, which are true exactly at the greatest symbols of the rows
use Rattle.std.specs.Prelude.{◌≡◌, ℕ, ◌+◌, ◌-◌, ◌≤◌, List, length, Bool, false, not, ◌||◌, nat_eq, slice_index_or}
use Rattle.fpl_numbers.specs.declared.number.Num.{Num}
use Rattle.fpl_check.specs.ClosedRows.{is_greatest}

abbrev pub marked : List Bool → ℕ → Bool
marked marks s = slice_index_or marks (s - 1) false

abbrev pub is_clear : List Bool → ℕ → ℕ → Bool
is_clear marks lead t = nat_eq (t + 1) lead || not (marked marks (t + 1))

pub record IsMarking (n : ℕ) (rows : List (List Num)) (marks : List Bool) : Type 0 where
  pub length_is : length marks ≡ n
  pub marks_leads : (s : ℕ) → 1 ≤ s → s ≤ n → marked marks s ≡ is_greatest rows s
