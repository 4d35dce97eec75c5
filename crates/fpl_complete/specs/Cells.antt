-- The coefficients of a row that is told by its places and numbers.
--
--   coefficient_at s c      the number c at place s, which counts from 0
--   cell_if s c             the same alone in a list, or nothing where c is 0
use Rattle.std.specs.Prelude.{ℕ, ◌+◌, List, [], ◌∷◌, if◌then◌else◌}
use Rattle.fpl_numbers.specs.declared.number.Num.{Num}
use Rattle.fpl_numbers.specs.Numbers.{is_nought}
use Rattle.fpl_log.specs.declared.closed.Coefficient.{Coefficient}
use Rattle.plain_weights.specs.Section.{coefficient}

abbrev pub coefficient_at : ℕ → Num → Coefficient
coefficient_at s c = coefficient (s + 1) c

abbrev pub cell_if : ℕ → Num → List Coefficient
cell_if s c = if is_nought c then [] else coefficient_at s c ∷ []
