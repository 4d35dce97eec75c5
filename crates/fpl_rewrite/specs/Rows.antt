-- The plain run of source rows: the exact row over the symbols of the weight after a table's, or the first operation that does not fit.
--
--   pair_place T i j         the place of the pair (i, j) among the symbols
--   generator_place T g      the place of a generator
--   add_symbol T i j c v     c is added at the symbol of a pair
--   add_signed T x c v       c, with the sign of a pairing, is added at its pair's symbol
--   outer_of T x y           the outermost bracket of two rows: the product of each number of x with each of y, but not where i = j is even, is
--                            added at the pair's symbol, with the pair's sign
--   form_of T e              an expression of the weight, member by member; 0 without operations where it has no weight
--   take_off kind v x        x is taken off, as the multiple by -1: a product with -1 is minus the other factor, and always fits
--   relation_row_of T q      the left side, and then minus the right side
--   entry_if T i j           the entry of (i, j) for i <= j, and nothing for an even element with itself
--   jacobi_row_of T i j k    [b_i, [b_j, b_k]] - [[b_i, b_j], b_k] - (-1)^(|b_i||b_j|) [b_j, [b_i, b_k]], through its three entries in this order
--   cube_row_of T i          [b_i, [b_i, b_i]]
--   row_of_origin T p o      the row of an origin
use Rattle.std.specs.Prelude.{ℕ, ◌-◌, List, [], ◌∷◌, length, Result, Ok, if◌then◌else◌, cond, nat_eq, Bool, true, false}
use Rattle.fpl_numbers.specs.declared.number.Num.{Num}
use Rattle.fpl_numbers.specs.declared.number.Kind.{Kind}
use Rattle.fpl_numbers.specs.declared.number.Unfit.{Unfit}
use Rattle.fpl_numbers.specs.Numbers.{residue, negative_of}
use Rattle.fpl_numbers.specs.Results.{and_then}
use Rattle.fpl_scalar.specs.Vectors.{axpy_of, scale_of}
use Rattle.fpl_rows.specs.Positions.{added_at}
use Rattle.math_algebra.specs.Tree.{Tree, Trees, gen, none, sum_of, multiple, bracket_of as bracket, end, more, Parity, even, odd}
use Rattle.math_algebra.specs.Table.{of_generator, of_pair}
use Rattle.math_algebra.specs.Degrees.{Degree, any, exact, mixed, weight_of}
use Rattle.math_algebra.specs.Symbols.{place_of}
use Rattle.fpl_model.specs.declared.presentation.Equation.{Equation}
use Rattle.fpl_model.specs.declared.presentation.Presentation.{Presentation}
use Rattle.fpl_model.specs.Meaning.{plain, in_field}
use Rattle.fpl_log.specs.declared.step.Origin.{Origin}
use Rattle.fpl_log.specs.declared.step.Origin.TheVariants.{Relation, Jacobi, Cube, Row}
use Rattle.fpl_table.specs.Plain.{PlainTable, plain_basis, entry_row, shell_in, symbols_in, Pairing, nothing, plus, minus, pairing}
use Rattle.fpl_table.specs.Sums.{add_each, bilinear_of}
use Rattle.fpl_table.specs.Value.{zero_row, add_row, value_of}

abbrev pub pair_place : PlainTable → ℕ → ℕ → ℕ
pair_place T i j = place_of (of_pair i j) (symbols_in T)

abbrev pub generator_place : PlainTable → ℕ → ℕ
generator_place T g = place_of (of_generator g) (symbols_in T)

abbrev pub add_symbol : PlainTable → ℕ → ℕ → Num → List Num → Result (List Num) Unfit
add_symbol T i j c v = added_at T.kind v (pair_place T i j) c

abbrev pub add_signed : PlainTable → Pairing → Num → List Num → Result (List Num) Unfit
add_signed T nothing c v = Ok v
add_signed T (plus i j) c v = add_symbol T i j c v
add_signed T (minus i j) c v = add_symbol T i j (negative_of T.kind c) v

abbrev pub outer_of : PlainTable → List Num → List Num → Result (List Num) Unfit
outer_of T x y = bilinear_of T (add_symbol T) x y (zero_row (length (symbols_in T)))

abbrev pub has_weight : Degree ℕ → Bool
has_weight any = false
has_weight (exact w) = true
has_weight mixed = true

abbrev pub counts : PlainTable → Tree Num → Bool
counts T e = has_weight (weight_of (shell_in T.kind T) (in_field T.kind e))

-- 1 at a symbol
abbrev pub symbol_unit : PlainTable → ℕ → Result (List Num) Unfit
symbol_unit T s = added_at T.kind (zero_row (length (symbols_in T))) s (residue 1)

abbrev mutual
  pub form_of : PlainTable → Tree Num → Result (List Num) Unfit
  form_of T (gen g) = symbol_unit T (generator_place T (g - 1))
  form_of T none = Ok (zero_row (length (symbols_in T)))
  form_of T (sum_of es) = forms_of T es (zero_row (length (symbols_in T)))
  form_of T (multiple c e) = if counts T e then and_then (scale_of T.kind c) (form_of T e) else Ok (zero_row (length (symbols_in T)))
  form_of T (bracket a b) =
      if counts T (bracket a b) then and_then (λ x. and_then (λ y. outer_of T x y) (value_of T b)) (value_of T a)
      else Ok (zero_row (length (symbols_in T)))

  pub forms_of : PlainTable → Trees Num → List Num → Result (List Num) Unfit
  forms_of T end v = Ok v
  forms_of T (more e es) v =
      and_then (λ w. forms_of T es w) (if counts T e then and_then (λ x. add_row T.kind v x) (form_of T e) else Ok v)

abbrev pub take_off : Kind → List Num → List Num → Result (List Num) Unfit
take_off kind v x = axpy_of kind v (negative_of kind (residue 1)) x

abbrev pub relation_row_of : PlainTable → Equation → Result (List Num) Unfit
relation_row_of T q =
    and_then (λ x. and_then (λ y. take_off T.kind x y) (form_of T (plain q.right))) (form_of T (plain q.left))

abbrev pub entry_by : PlainTable → Pairing → List Num
entry_by T nothing = []
entry_by T (plus i j) = entry_row T i j
entry_by T (minus i j) = []

abbrev pub entry_if : PlainTable → ℕ → ℕ → List Num
entry_if T i j = entry_by T (pairing T i j)

abbrev pub first_terms : PlainTable → ℕ → ℕ → Num → List Num → Result (List Num) Unfit
first_terms T i t c v = add_signed T (pairing T i t) c v

abbrev pub second_terms : PlainTable → ℕ → ℕ → Num → List Num → Result (List Num) Unfit
second_terms T k t c v = add_signed T (pairing T t k) (negative_of T.kind c) v

-- times -(-1)^(|b_i||b_j|)
abbrev pub swapped : PlainTable → Parity → Parity → Num → Num
swapped T odd odd c = c
swapped T odd even c = negative_of T.kind c
swapped T even s c = negative_of T.kind c

abbrev pub third_terms : PlainTable → ℕ → ℕ → ℕ → Num → List Num → Result (List Num) Unfit
third_terms T i j t c v = add_signed T (pairing T j t) (swapped T (plain_basis T i).parity (plain_basis T j).parity c) v

abbrev pub jacobi_row_of : PlainTable → ℕ → ℕ → ℕ → Result (List Num) Unfit
jacobi_row_of T i j k =
    and_then (λ w. add_each (third_terms T i j) 0 (entry_if T i k) w)
    (and_then (λ w. add_each (second_terms T k) 0 (entry_if T i j) w)
    (add_each (first_terms T i) 0 (entry_if T j k) (zero_row (length (symbols_in T)))))

abbrev pub cube_row_of : PlainTable → ℕ → Result (List Num) Unfit
cube_row_of T i = add_each (first_terms T i) 0 (entry_if T i i) (zero_row (length (symbols_in T)))

abbrev pub equation_row : PlainTable → List Equation → ℕ → Result (List Num) Unfit
equation_row T [] r = Ok (zero_row (length (symbols_in T)))
equation_row T (q ∷ qs) r = cond (nat_eq r 1) (relation_row_of T q) (equation_row T qs (r - 1))

abbrev pub row_of_origin : PlainTable → Presentation → Origin → Result (List Num) Unfit
row_of_origin T p (Relation r) = equation_row T p.relations r
row_of_origin T p (Jacobi i j k) = jacobi_row_of T (i - 1) (j - 1) (k - 1)
row_of_origin T p (Cube i) = cube_row_of T (i - 1)
row_of_origin T p (Row n) = Ok (zero_row (length (symbols_in T)))
