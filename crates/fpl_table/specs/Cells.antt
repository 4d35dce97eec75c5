-- The symbols of a weight, part by part.
--
--   generator_cells T w   the generators of weight w, ascending
--   pairs_to T w i        the regular pairs of weight w whose first basis element stands before place i
--   pair_cells T w i      the regular pairs (i, j) of weight w, by ascending j
use Rattle.std.specs.Prelude.{ℕ, List, [], ◌∷◌, length, cond, nat_eq}
use Rattle.math_algebra.specs.Table.{Symbol, of_generator, of_pair}
use Rattle.math_linear.specs.Lists.{joined}
use Rattle.math_algebra.specs.Symbols.{is_pair_of}
use Rattle.fpl_table.specs.Plain.{PlainTable, generator_at, table_in}

abbrev pub generator_cell : PlainTable → ℕ → ℕ → List Symbol
generator_cell T w g = cond (nat_eq (generator_at T g).weight w) (of_generator g ∷ []) []

abbrev pub generator_cells : PlainTable → ℕ → List Symbol
generator_cells T w = joined (length T.generators) (generator_cell T w)

abbrev pub pair_cell : PlainTable → ℕ → ℕ → ℕ → List Symbol
pair_cell T w i j = cond (is_pair_of (table_in T.kind T) w i j) (of_pair i j ∷ []) []

abbrev pub pair_cells : PlainTable → ℕ → ℕ → List Symbol
pair_cells T w i = joined (length T.basis) (pair_cell T w i)

abbrev pub pairs_to : PlainTable → ℕ → ℕ → List Symbol
pairs_to T w i = joined i (pair_cells T w)
