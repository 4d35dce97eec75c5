-- The pairs among the symbols of a weight.
--
--   leading_generators xs   how many generators stand before the first pair
--   IsSplit xs k            a pair's place in xs is k more than its place behind the first k
use Rattle.std.specs.Prelude.{ℕ, suc, ◌≡◌, ◌≤◌, ◌+◌, List, [], ◌∷◌, length, drop}
use Rattle.math_algebra.specs.Table.{Symbol, of_generator, of_pair}
use Rattle.math_algebra.specs.Symbols.{place_of}

abbrev pub leading_generators : List Symbol → ℕ
leading_generators [] = 0
leading_generators (of_generator g ∷ xs) = suc (leading_generators xs)
leading_generators (of_pair i j ∷ xs) = 0

pub record IsSplit (xs : List Symbol) (k : ℕ) : Type 0 where
  pub within : k ≤ length xs
  pub places : (i j : ℕ) → place_of (of_pair i j) xs ≡ k + place_of (of_pair i j) (drop k xs)
