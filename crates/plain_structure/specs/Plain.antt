-- The plain runs of the centre, the lower central series and an ideal: exact numbers of any size, or the first operation that does not fit.
-- Over fractions brackets are taken with every basis element. Over a prime every operation fits, and they are taken with the generators alone, which is enough.
--
--   size T                   the number of basis elements
--   unit_row n i             1 at i, over n positions
--   acts T i                 brackets are taken with b_i: with each over fractions, with the generators over a prime
--   bracket_number T i j t   the number of b_t in [b_i, b_j], with the sign of the pair; signs alone take no operation
--   centre_row T j t         over i, the number of b_t in [b_i, b_j]
--   centre_rows T            those rows that are not 0, for each b_j that acts ascending and each t ascending
--   centre_of T              their kernel
--   bracket_rows T rows      for each b_i that acts ascending and each row r in order, [b_i, r], where it is not 0
--   next_term T rows         their span
--   series_from T n rows     the terms from one on, to the first that is 0, which stands last; at most n more
--   lower_central_of T       the terms, the unit rows first
--   round_of T rows          the span of the rows and of these brackets
--   rounds_from T n rows     rounds, to the first that doesn't raise the dimension; at most n
--   ideal_of T es            the values of the elements, closed, and rounds from there
use Rattle.std.specs.Prelude.{ℕ, zero, suc, ◌+◌, List, [], ◌∷◌, ◌++◌, length, map, get_or, nat_le, nat_eq, is_some, Bool, true, false, Result, Ok, Err, if◌then◌else◌}
use Rattle.math_linear.specs.Lists.{joined}
use Rattle.fpl_numbers.specs.declared.number.Num.{Num}
use Rattle.fpl_numbers.specs.declared.number.Kind.{Kind}
use Rattle.fpl_numbers.specs.declared.number.Kind.TheVariants.{Rational, Prime}
use Rattle.fpl_numbers.specs.declared.number.Unfit.{Unfit}
use Rattle.fpl_numbers.specs.Numbers.{residue, negative_of}
use Rattle.fpl_numbers.specs.Results.{and_then, map_ok}
use Rattle.fpl_rows.specs.Positions.{lead_of}
use Rattle.math_algebra.specs.Tree.{Tree}
use Rattle.math_algebra.specs.Table.{Symbol, of_generator, of_pair}
use Rattle.fpl_table.specs.Plain.{PlainTable, plain_basis, entry_row, Pairing, nothing, plus, minus, pairing}
use Rattle.fpl_table.specs.Value.{bracket_of, value_of}
use Rattle.plain_spans.specs.Plain.{numbers_to, span_of, kernel_of}

abbrev pub Rows : Type 0
Rows = List (List Num)

abbrev pub size : PlainTable → ℕ
size T = length T.basis

abbrev pub unit_row : ℕ → ℕ → List Num
unit_row n i = numbers_to n (λ s. if nat_eq i s then residue 1 else residue 0)

abbrev pub units_to : ℕ → ℕ → Rows
units_to n zero = []
units_to n (suc i) = units_to n i ++ unit_row n i ∷ []

abbrev pub is_generator : Symbol → Bool
is_generator (of_generator g) = true
is_generator (of_pair i j) = false

abbrev pub acts_in : Kind → Symbol → Bool
acts_in Rational x = true
acts_in (Prime n) x = is_generator x

abbrev pub acts : PlainTable → ℕ → Bool
acts T i = acts_in T.kind (plain_basis T i).symbol

-- the number at t of an entry, where the table has it
abbrev pub entry_number : PlainTable → ℕ → ℕ → ℕ → Num
entry_number T i j t =
    if nat_le ((plain_basis T i).weight + (plain_basis T j).weight) T.weight then get_or (entry_row T i j) t (residue 0) else residue 0

abbrev pub number_in : PlainTable → Pairing → ℕ → Num
number_in T nothing t = residue 0
number_in T (plus i j) t = entry_number T i j t
number_in T (minus i j) t = negative_of T.kind (entry_number T i j t)

abbrev pub bracket_number : PlainTable → ℕ → ℕ → ℕ → Num
bracket_number T i j t = number_in T (pairing T i j) t

abbrev pub centre_row : PlainTable → ℕ → ℕ → List Num
centre_row T j t = numbers_to (size T) (λ i. bracket_number T i j t)

abbrev pub if_any : List Num → List (Result (List Num) Unfit)
if_any row = if is_some (lead_of row) then Ok row ∷ [] else []

abbrev pub centre_rows_of : PlainTable → ℕ → List (Result (List Num) Unfit)
centre_rows_of T j = joined (size T) (λ t. if_any (centre_row T j t))

abbrev pub centre_rows_at : PlainTable → ℕ → List (Result (List Num) Unfit)
centre_rows_at T j = if acts T j then centre_rows_of T j else []

abbrev pub centre_rows : PlainTable → List (Result (List Num) Unfit)
centre_rows T = joined (size T) (centre_rows_at T)

abbrev pub centre_of : PlainTable → Result Rows Unfit
centre_of T = kernel_of T.kind (size T) (centre_rows T)

-- a row that is 0 is left out
abbrev pub if_formed : Result (List Num) Unfit → List (Result (List Num) Unfit)
if_formed (Ok row) = if_any row
if_formed (Err u) = Err u ∷ []

abbrev pub brackets_with : PlainTable → ℕ → Rows → List (Result (List Num) Unfit)
brackets_with T i [] = []
brackets_with T i (r ∷ rs) = if_formed (bracket_of T (unit_row (size T) i) r) ++ brackets_with T i rs

abbrev pub bracket_rows_at : PlainTable → Rows → ℕ → List (Result (List Num) Unfit)
bracket_rows_at T rows i = if acts T i then brackets_with T i rows else []

abbrev pub bracket_rows : PlainTable → Rows → List (Result (List Num) Unfit)
bracket_rows T rows = joined (size T) (bracket_rows_at T rows)

abbrev pub next_term : PlainTable → Rows → Result Rows Unfit
next_term T rows = span_of T.kind (size T) (bracket_rows T rows)

-- a term, before those after it
abbrev pub before : Rows → List Rows → List Rows
before rows terms = rows ∷ terms

abbrev pub series_from : PlainTable → ℕ → Rows → Result (List Rows) Unfit
series_from T n [] = Ok ([] ∷ [])
series_from T zero (r ∷ rs) = Ok ((r ∷ rs) ∷ [])
series_from T (suc n) (r ∷ rs) = map_ok (before (r ∷ rs)) (and_then (series_from T n) (next_term T (r ∷ rs)))

abbrev pub lower_central_of : PlainTable → Result (List Rows) Unfit
lower_central_of T = series_from T T.weight (units_to (size T) (size T))

abbrev pub round_of : PlainTable → Rows → Result Rows Unfit
round_of T rows = span_of T.kind (size T) (map Ok rows ++ bracket_rows T rows)

abbrev pub after_round : (further : Rows → Result Rows Unfit) → Rows → Rows → Result Rows Unfit
after_round further rows next = if nat_eq (length next) (length rows) then Ok next else further next

abbrev pub rounds_from : PlainTable → ℕ → Rows → Result Rows Unfit
rounds_from T zero rows = Ok rows
rounds_from T (suc n) rows = and_then (after_round (rounds_from T n) rows) (round_of T rows)

abbrev pub ideal_of : PlainTable → List (Tree Num) → Result Rows Unfit
ideal_of T es = and_then (rounds_from T (suc (size T))) (span_of T.kind (size T) (map (value_of T) es))
