-- The rows that are kept: the straight forms of basis elements before ordered words, before which they may not stand. Basis elements count from 0 here.
--
--   IsElementRows T w i rows     those of b_i of weight w, for the words of the weight that is left up to those before which it may stand
--   HasElement T w i level       where b_i weighs at most w, such rows stand in the level at its place: the last element of at most the weight stands first
--   IsLevelFrom T w n level      the level has the rows of each such element from n on
--   AreLevels T levels           whole levels for the weights from 0 on
--   Kept                         counts of words, and levels
--   AreProducts T kept           counts of words for each weight of a level, and levels
use Rattle.std.specs.Prelude.{ℕ, suc, ◌≡◌, ◌≤◌, ◌<◌, ◌+◌, ◌-◌, List, [], length, get_or}
use Rattle.fpl_numbers.specs.declared.number.Num.{Num}
use Rattle.fpl_table.specs.Plain.{PlainTable, plain_basis, through}
use Rattle.fpl_envelope.specs.Counts.{skipped_in, AreCounts}
use Rattle.fpl_envelope.specs.Action.{acted, StandsFor}

pub record IsElementRows (T : PlainTable) (w i : ℕ) (rows : List (List Num)) : Type 0 where
  pub long : length rows ≡ skipped_in T (w - (plain_basis T i).weight) i
  pub stand : (k : ℕ) → k < length rows → StandsFor T w (acted T i (w - (plain_basis T i).weight) k) (get_or rows k [])

pub record HasElement (T : PlainTable) (w i : ℕ) (level : List (List (List Num))) : Type 0 where
  pub within : through T w - suc i < length level
  pub rows : IsElementRows T w i (get_or level (through T w - suc i) [])

pub record IsLevelFrom (T : PlainTable) (w n : ℕ) (level : List (List (List Num))) : Type 0 where
  pub long : length level + n ≡ through T w
  pub has : (i : ℕ) → n ≤ i → i < through T w → HasElement T w i level

abbrev pub AreLevels : PlainTable → List (List (List (List Num))) → Type 0
AreLevels T levels = (w : ℕ) → w < length levels → IsLevelFrom T w 0 (get_or levels w [])

pub record Kept : Type 0 where
  pub counts : List (List ℕ)
  pub levels : List (List (List (List Num)))

pub record AreProducts (T : PlainTable) (kept : Kept) : Type 0 where
  pub counts : AreCounts T kept.counts
  pub levels : AreLevels T kept.levels
  pub within : length kept.levels ≤ length kept.counts
