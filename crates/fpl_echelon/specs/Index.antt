-- The index of pivot rows by lead.
--
--   place_at places s        where the first row with lead s + 1 stands, if there is one
--   noted_at places s i      the index with i at s, where it had none there
--   IsIndex places pivots    the index is right
use Rattle.std.specs.Prelude.{◌≡◌, ℕ, ◌+◌, ◌<◌, List, length, Option, Some, None, slice_index_or, slice_get, slice_set}
use Rattle.std.specs.Option.{option_and_then}
use Rattle.std.specs.List.{find}
use Rattle.plain_elimination.specs.Plain.{PivotRow, stands_at}

abbrev pub place_at : List (Option ℕ) → ℕ → Option ℕ
place_at places s = slice_index_or places s None

abbrev pub noted_by : Option ℕ → List (Option ℕ) → ℕ → ℕ → List (Option ℕ)
noted_by None places s i = slice_set places s (Some i)
noted_by (Some j) places s i = places

abbrev pub noted_at : List (Option ℕ) → ℕ → ℕ → List (Option ℕ)
noted_at places s i = noted_by (place_at places s) places s i

pub record IsIndex (places : List (Option ℕ)) (pivots : List PivotRow) : Type 0 where
  pub within : (s i : ℕ) → place_at places s ≡ Some i → i < length pivots
  pub finds : (s : ℕ) → find (stands_at (s + 1)) pivots ≡ option_and_then (λ i. slice_get pivots i) (place_at places s)
