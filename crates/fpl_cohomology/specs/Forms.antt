-- Tuples of basis elements, as calls give them.
--
--   triple_in x          a triple of code, which has places from 0, too
--   pair_tuple x         the numbers, from 1, of a pair
--   forms_of T k w       the sorted tuples of k basis elements of total weight w, by numbers from 1, in lexicographic order; for k from 1 to 3
--   coboundary_of T k w  the coboundary from degree k to degree k + 1, for k of 1 or 2: a row over the k-tuples for each (k + 1)-tuple
use Rattle.std.specs.Prelude.{ℕ, ◌+◌, List, [], ◌∷◌, map, nat_eq, cond, Result, Ok}
use Rattle.math_algebra.specs.Table.{Symbol, of_generator, of_pair}
use Rattle.fpl_numbers.specs.declared.number.Num.{Num}
use Rattle.fpl_numbers.specs.declared.number.Unfit.{Unfit}
use Rattle.fpl_table.specs.Plain.{PlainTable}
use Rattle.plain_cohomology.specs.Plain.{Triple, singles, pairs, triples, bracket_row, triple_row, all_of}
use Rattle.fpl_cohomology.specs.declared.triples.Places as code

abbrev pub triple_in : code.Places → Triple
triple_in x = record { first = x.first; second = x.second; third = x.third }

abbrev pub single_tuple : ℕ → List ℕ
single_tuple i = (i + 1) ∷ []

abbrev pub pair_tuple : Symbol → List ℕ
pair_tuple (of_generator g) = []
pair_tuple (of_pair i j) = (i + 1) ∷ ((j + 1) ∷ [])

abbrev pub triple_tuple : Triple → List ℕ
triple_tuple x = (x.first + 1) ∷ ((x.second + 1) ∷ ((x.third + 1) ∷ []))

abbrev pub forms_of : PlainTable → (degree weight : ℕ) → List (List ℕ)
forms_of T k w =
    cond (nat_eq k 1) (map single_tuple (singles T w))
    (cond (nat_eq k 2) (map pair_tuple (pairs T w)) (map triple_tuple (triples T w)))

abbrev pub coboundary_of : PlainTable → (degree weight : ℕ) → Result (List (List Num)) Unfit
coboundary_of T k w = cond (nat_eq k 1) (Ok (map (bracket_row T w) (pairs T w))) (all_of (map (triple_row T w) (triples T w)))
