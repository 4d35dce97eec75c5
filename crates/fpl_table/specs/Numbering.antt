-- The symbols of a weight, and the number of each.
--
--   SymbolList             a weight, and its symbols in order
--   number_from eq s xs x  the number of x, where those of xs have the numbers s + 1, s + 2, ..
--   IsNumberOf xs x r      r is the number of x among xs, counted from 1; or there is none, and x is none of them
--   IsNumbering            what the fields of Symbols keep
use Rattle.std.specs.Prelude.{ℕ, ◌≡◌, ◌≤◌, ◌<◌, ◌+◌, ◌-◌, ◌^◌, List, [], ◌∷◌, length, Bool, cond, Option, Some, None, All}
use Rattle.math_algebra.specs.Table.{Symbol}
use Rattle.math_algebra.specs.Symbols.{place_of}
use Rattle.fpl_table.specs.declared.symbol.Symbol as code
use Rattle.fpl_table.specs.Shape.{IsNumbered}

pub record SymbolList : Type 0 where
  pub weight : ℕ
  pub symbols : List Symbol

abbrev pub number_from : (code.Symbol → code.Symbol → Bool) → ℕ → List code.Symbol → code.Symbol → Option ℕ
number_from eq s [] x = None
number_from eq s (y ∷ ys) x = cond (eq y x) (Some (s + 1)) (number_from eq (s + 1) ys x)

abbrev pub IsNumberOf : List Symbol → Symbol → Option ℕ → Type 0
IsNumberOf xs x None = place_of x xs ≡ length xs
IsNumberOf xs x (Some s) = (1 ≤ s) × (s ≤ length xs) × (place_of x xs ≡ s - 1)

pub record IsNumbering (eq : code.Symbol → code.Symbol → Bool) (list : List code.Symbol) (number : code.Symbol → Option ℕ) : Type 0 where
  pub numbered : All IsNumbered list
  pub short : length list < 2 ^ 32
  pub numbers : (x : code.Symbol) → number x ≡ number_from eq 0 list x
