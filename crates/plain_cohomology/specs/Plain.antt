-- The plain run of the cohomology of a weight: exact numbers of any size, or the first operation that does not fit.
-- Basis elements count from 0. A pair of basis elements is given by its symbol.
--
--   singles T w                 the basis elements of weight w, ascending
--   pairs T w                   the regular pairs of weight w, in lexicographic order
--   triples T w                 the triples i <= j <= k of weight w with equal neighbours only where odd, in lexicographic order
--   single_place xs i           the place of a basis element in a list
--   entry_of T x                the entry of a pair
--   bracket_row T w x           over the basis elements of weight w: the numbers of the pair's entry
--   coboundary_row T w e        over the pairs of weight w: the number of b_e in each pair's entry
--   add_pair T ps q c v         c, with the sign of a pairing, is added at its pair's place in ps
--   add_terms T ps b i j k v    for the number c of each b_t in the entry of (i, j): c, or minus c where b is true, is added at the pair of b_t and b_k
--   triple_row T w x            over the pairs of weight w: the coboundary at a triple of the forms that are 1 at one pair:
--                               f([b_i, b_j], b_k) - (-1)^(|j||k|) f([b_i, b_k], b_j) + (-1)^(|i||j| + |i||k|) f([b_j, b_k], b_i), in this order
--   all_of rows                 the rows, where all can be formed
--   is_pivot rows q             some row has its lead at place q
--   Low                         rows that represent H1 and H2 of a weight
--   h1_of, cocycles_of, coboundaries_of   closed rows: the kernel of the bracket rows, that of the triples' rows, all formed before any is put in,
--                               and the span of the coboundaries
--   low_of T w                  H1, then the cocycles, then the coboundaries; H2 are the cocycles whose pivot is no pivot of the coboundaries
--   lows_of T d                 the weights from 1 to d, one after the other
use Rattle.std.specs.Prelude.{ℕ, zero, suc, ◌+◌, List, [], ◌∷◌, ◌++◌, length, map, filter, get_or, nat_eq, Bool, true, false, not, ◌&&◌, Result, Ok, cond}
use Rattle.math_linear.specs.Lists.{joined}
use Rattle.math_algebra.specs.Table.{Symbol, of_generator, of_pair}
use Rattle.math_algebra.specs.Symbols.{is_odd, is_regular, pairs_of, place_of}
use Rattle.fpl_numbers.specs.declared.number.Num.{Num}
use Rattle.fpl_numbers.specs.declared.number.Unfit.{Unfit}
use Rattle.fpl_numbers.specs.Numbers.{residue, negative_of}
use Rattle.fpl_numbers.specs.Results.{and_then, map_ok}
use Rattle.fpl_rows.specs.Meaning.{pivot_of}
use Rattle.fpl_rows.specs.Positions.{added_at}
use Rattle.fpl_table.specs.Plain.{PlainTable, plain_basis, entry_row, table_in, Pairing, nothing, plus, minus, pairing}
use Rattle.fpl_table.specs.Sums.{add_each}
use Rattle.fpl_table.specs.Value.{zero_row}
use Rattle.fpl_rewrite.specs.Rows.{entry_if}
use Rattle.fpl_rewrite.specs.Terms.{signed}
use Rattle.plain_spans.specs.Plain.{span_of, kernel_of}

pub record Triple : Type 0 where
  pub first : ℕ
  pub second : ℕ
  pub third : ℕ

abbrev pub single_cell : PlainTable → ℕ → ℕ → List ℕ
single_cell T w i = cond (nat_eq (plain_basis T i).weight w) (i ∷ []) []

abbrev pub singles : PlainTable → ℕ → List ℕ
singles T w = joined (length T.basis) (single_cell T w)

abbrev pub pairs : PlainTable → ℕ → List Symbol
pairs T w = pairs_of (table_in T.kind T) w

abbrev pub is_triple : PlainTable → ℕ → ℕ → ℕ → ℕ → Bool
is_triple T w i j k =
    nat_eq ((plain_basis T i).weight + (plain_basis T j).weight + (plain_basis T k).weight) w
    && (is_regular (table_in T.kind T) i j && is_regular (table_in T.kind T) j k)

abbrev pub third_cell : PlainTable → ℕ → ℕ → ℕ → ℕ → List Triple
third_cell T w i j k = cond (is_triple T w i j k) (record { first = i; second = j; third = k } ∷ []) []

abbrev pub second_cell : PlainTable → ℕ → ℕ → ℕ → List Triple
second_cell T w i j = joined (length T.basis) (third_cell T w i j)

abbrev pub first_cell : PlainTable → ℕ → ℕ → List Triple
first_cell T w i = joined (length T.basis) (second_cell T w i)

abbrev pub triples : PlainTable → ℕ → List Triple
triples T w = joined (length T.basis) (first_cell T w)

abbrev pub single_place : List ℕ → ℕ → ℕ
single_place [] i = 0
single_place (x ∷ xs) i = cond (nat_eq x i) 0 (suc (single_place xs i))

abbrev pub entry_of : PlainTable → Symbol → List Num
entry_of T (of_generator g) = []
entry_of T (of_pair i j) = entry_row T i j

abbrev pub bracket_row : PlainTable → ℕ → Symbol → List Num
bracket_row T w x = map (λ e. get_or (entry_of T x) e (residue 0)) (singles T w)

abbrev pub coboundary_row : PlainTable → ℕ → ℕ → List Num
coboundary_row T w e = map (λ x. get_or (entry_of T x) e (residue 0)) (pairs T w)

abbrev pub add_pair : PlainTable → List Symbol → Pairing → Num → List Num → Result (List Num) Unfit
add_pair T ps nothing c v = Ok v
add_pair T ps (plus i j) c v = added_at T.kind v (place_of (of_pair i j) ps) c
add_pair T ps (minus i j) c v = added_at T.kind v (place_of (of_pair i j) ps) (negative_of T.kind c)

abbrev pub add_term : PlainTable → List Symbol → Bool → ℕ → ℕ → Num → List Num → Result (List Num) Unfit
add_term T ps negated k t c v = add_pair T ps (pairing T t k) (signed T negated c) v

abbrev pub add_terms : PlainTable → List Symbol → Bool → (left right beside : ℕ) → List Num → Result (List Num) Unfit
add_terms T ps negated i j k v = add_each (add_term T ps negated k) 0 (entry_if T i j) v

abbrev pub both_odd : PlainTable → ℕ → ℕ → Bool
both_odd T i j = is_odd (plain_basis T i).parity && is_odd (plain_basis T j).parity

abbrev pub differ : Bool → Bool → Bool
differ true b = not b
differ false b = b

-- the signs of the second and the third terms
abbrev pub second_negated : PlainTable → Triple → Bool
second_negated T x = not (both_odd T x.second x.third)

abbrev pub third_negated : PlainTable → Triple → Bool
third_negated T x = differ (both_odd T x.first x.second) (both_odd T x.first x.third)

abbrev pub triple_row : PlainTable → ℕ → Triple → Result (List Num) Unfit
triple_row T w x =
    and_then (λ v. add_terms T (pairs T w) (third_negated T x) x.second x.third x.first v)
    (and_then (λ v. add_terms T (pairs T w) (second_negated T x) x.first x.third x.second v)
    (add_terms T (pairs T w) false x.first x.second x.third (zero_row (length (pairs T w)))))

abbrev pub all_of : List (Result (List Num) Unfit) → Result (List (List Num)) Unfit
all_of [] = Ok []
all_of (r ∷ rs) = and_then (λ row. map_ok (λ rows. row ∷ rows) (all_of rs)) r

abbrev pub is_pivot : List (List Num) → ℕ → Bool
is_pivot [] q = false
is_pivot (r ∷ rs) q = cond (nat_eq (pivot_of r) q) true (is_pivot rs q)

pub record Low : Type 0 where
  pub h1 : List (List Num)
  pub h2 : List (List Num)

abbrev pub h1_of : PlainTable → ℕ → Result (List (List Num)) Unfit
h1_of T w = kernel_of T.kind (length (singles T w)) (map (λ x. Ok (bracket_row T w x)) (pairs T w))

abbrev pub cocycles_of : PlainTable → ℕ → Result (List (List Num)) Unfit
cocycles_of T w = and_then (λ rows. kernel_of T.kind (length (pairs T w)) (map Ok rows)) (all_of (map (triple_row T w) (triples T w)))

abbrev pub coboundaries_of : PlainTable → ℕ → Result (List (List Num)) Unfit
coboundaries_of T w = span_of T.kind (length (pairs T w)) (map (λ e. Ok (coboundary_row T w e)) (singles T w))

abbrev pub chosen : (cocycles coboundaries : List (List Num)) → List (List Num)
chosen cocycles coboundaries = filter (λ r. not (is_pivot coboundaries (pivot_of r))) cocycles

abbrev pub low_with : (h1 cocycles coboundaries : List (List Num)) → Low
low_with h1 cocycles coboundaries = record { h1 = h1; h2 = chosen cocycles coboundaries }

abbrev pub low_of : PlainTable → ℕ → Result Low Unfit
low_of T w = and_then (λ h1. and_then (λ cocycles. map_ok (low_with h1 cocycles) (coboundaries_of T w)) (cocycles_of T w)) (h1_of T w)

abbrev pub lows_of : PlainTable → ℕ → Result (List Low) Unfit
lows_of T zero = Ok []
lows_of T (suc w) = and_then (λ lows. map_ok (λ low. lows ++ low ∷ []) (low_of T (suc w))) (lows_of T w)
