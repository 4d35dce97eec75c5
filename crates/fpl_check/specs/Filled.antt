-- Positions at which rows are not 0.
--
--   least_of first second    the lesser of two positions, where there are two
--   symbol_of next           the symbol of a coefficient, where there is one
--   number_if s next         its number, if its symbol is s; else 0
--   cell_at t x              the coefficient of a number at place t, counted from 0
--   AreCells row ps xs k     the first k coefficients are the first k numbers xs at the places ps
use Rattle.std.specs.Prelude.{◌≡◌, ◌<◌, ◌+◌, ℕ, List, Option, Some, None, min, nat_eq, if◌then◌else◌, slice_get, slice_index_or}
use Rattle.fpl_numbers.specs.declared.number.Num.{Num}
use Rattle.fpl_numbers.specs.Numbers.{residue}
use Rattle.fpl_log.specs.declared.closed.Coefficient.{Coefficient}

abbrev pub least_of : Option ℕ → Option ℕ → Option ℕ
least_of None other = other
least_of (Some s) None = Some s
least_of (Some s) (Some t) = Some (min s t)

abbrev pub symbol_of : Option Coefficient → Option ℕ
symbol_of None = None
symbol_of (Some c) = Some c.symbol

abbrev pub number_if : ℕ → Option Coefficient → Num
number_if s None = residue 0
number_if s (Some c) = if nat_eq c.symbol s then c.number else residue 0

abbrev pub cell_at : ℕ → Num → Coefficient
cell_at t x = record { symbol = t + 1; number = x }

abbrev pub AreCells : List Coefficient → List ℕ → List Num → ℕ → Type 0
AreCells row ps xs k = (i : ℕ) → i < k → slice_get row i ≡ Some (cell_at (slice_index_or ps i 0) (slice_index_or xs i (residue 0)))
