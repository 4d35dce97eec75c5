-- The plain run of brackets and values in a table: the exact row, or the first operation that does not fit.
--
--   zero_row n            n times 0
--   add_row kind v x      x is added, as the multiple by 1: a product with 1 is the other factor, and always fits
--   add_entry T i j m v   m times the entry of (i, j) is added, where the weights sum to at most the table's
--   bracket_of T x y      the bracket of two rows: the product of each number of x with each of y, but not where i = j is even, times the entry of the pair
--   is_light T e          e has a weight as written, and it is at most the table's; or it is mixed
--   value_of T e          the value of an expression, member by member; 0 without operations where it isn't light
use Rattle.std.specs.Prelude.{ℕ, ◌+◌, ◌-◌, List, length, replicate, nat_le, Bool, true, false, Result, Ok, if◌then◌else◌}
use Rattle.fpl_numbers.specs.declared.number.Num.{Num}
use Rattle.fpl_numbers.specs.declared.number.Kind.{Kind}
use Rattle.fpl_numbers.specs.declared.number.Unfit.{Unfit}
use Rattle.fpl_numbers.specs.Numbers.{residue}
use Rattle.fpl_numbers.specs.Results.{and_then}
use Rattle.fpl_scalar.specs.Vectors.{axpy_of, scale_of}
use Rattle.math_algebra.specs.Tree.{Tree, Trees, gen, none, sum_of, multiple, bracket_of as bracket, end, more}
use Rattle.math_algebra.specs.Degrees.{Degree, any, exact, mixed, weight_of}
use Rattle.fpl_model.specs.Meaning.{in_field}
use Rattle.fpl_table.specs.Plain.{PlainTable, plain_basis, image_row, entry_row, shell_in}
use Rattle.fpl_table.specs.Sums.{bilinear_of}

abbrev pub zero_row : ℕ → List Num
zero_row n = replicate n (residue 0)

abbrev pub add_row : Kind → List Num → List Num → Result (List Num) Unfit
add_row kind v x = axpy_of kind v (residue 1) x

abbrev pub add_entry : PlainTable → ℕ → ℕ → Num → List Num → Result (List Num) Unfit
add_entry T i j m v =
    if nat_le ((plain_basis T i).weight + (plain_basis T j).weight) T.weight then axpy_of T.kind v m (entry_row T i j) else Ok v

abbrev pub bracket_of : PlainTable → List Num → List Num → Result (List Num) Unfit
bracket_of T x y = bilinear_of T (add_entry T) x y (zero_row (length T.basis))

abbrev pub is_weight_light : ℕ → Degree ℕ → Bool
is_weight_light d any = false
is_weight_light d (exact w) = nat_le w d
is_weight_light d mixed = true

abbrev pub is_light : PlainTable → Tree Num → Bool
is_light T e = is_weight_light T.weight (weight_of (shell_in T.kind T) (in_field T.kind e))

abbrev mutual
  pub value_of : PlainTable → Tree Num → Result (List Num) Unfit
  value_of T (gen g) =
      if is_light T (gen g) then add_row T.kind (zero_row (length T.basis)) (image_row T (g - 1)) else Ok (zero_row (length T.basis))
  value_of T none = Ok (zero_row (length T.basis))
  value_of T (sum_of es) =
      if is_light T (sum_of es) then values_of T es (zero_row (length T.basis)) else Ok (zero_row (length T.basis))
  value_of T (multiple c e) =
      if is_light T (multiple c e) then and_then (scale_of T.kind c) (value_of T e) else Ok (zero_row (length T.basis))
  value_of T (bracket a b) =
      if is_light T (bracket a b) then and_then (λ x. and_then (λ y. bracket_of T x y) (value_of T b)) (value_of T a) else Ok (zero_row (length T.basis))

  -- each member's value is formed, then added
  pub values_of : PlainTable → Trees Num → List Num → Result (List Num) Unfit
  values_of T end v = Ok v
  values_of T (more e es) v = and_then (λ x. and_then (λ w. values_of T es w) (add_row T.kind v x)) (value_of T e)
