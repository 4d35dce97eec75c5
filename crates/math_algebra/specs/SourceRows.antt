-- Source rows of the weight after a table's, as vectors over the symbols of that weight.
--
--   outer_place           an outermost bracket of two basis elements whose weights sum to the next weight: 1 at its pair's place, with the sign of
--                         the pair
--   outer                 an outermost bracket of two vectors
--   row_of, rows_of_all   an expression of the next weight: inner brackets have their values in the table, outermost ones stand at their pairs'
--                         places
--   jacobi_row            the row of a triple
--   relation_row          the row of a relation, its left side minus its right side
--   cube_row              the row [b_i, [b_i, b_i]] of an element
--   IsSource              the source rows: the relations of the next weight, the triples i <= j <= k of that total weight, and modulo 3 the cubes of
--                         odd elements
use Rattle.std.specs.Prelude.{ℕ, suc, ◌≡◌, ◌+◌, length, ◌<◌, ◌≤◌, cond, nat_eq}
use Rattle.math_fields.specs.Field.{Field}
use Rattle.math_linear.specs.Vector.{Vector, vzero, vplus, scale, place, bilinear}
use Rattle.math_algebra.specs.Tree.{Tree, Trees, gen, none, sum_of, multiple, bracket_of, end, more, odd, Presentation, left, right}
use Rattle.math_algebra.specs.Degrees.{exact, weight_of_both}
use Rattle.math_algebra.specs.Derives.{sign, three}
use Rattle.math_algebra.specs.Table.{Table, weight_at, parity_at, signed, bracket, val}
use Rattle.math_algebra.specs.Symbols.{pair_number, generator_number}

unfoldable pub outer_place : (K : Field) → Table K → (ℕ → ℕ → ℕ) → ℕ → ℕ → Vector K
outer_place K T number i j =
    cond (nat_eq (weight_at T i + weight_at T j) (suc T.weight)) (signed K (parity_at T) (λ i j. place K (number i j)) i j) (vzero K)

unfoldable pub outer : (K : Field) → Table K → (ℕ → ℕ → ℕ) → Vector K → Vector K → Vector K
outer K T number x y = bilinear K (length T.basis) (outer_place K T number) x y

module _ (K : Field) (T : Table K) (number : ℕ → ℕ → ℕ) (generator_number : ℕ → ℕ) where
  unfoldable mutual
    pub row_of : Tree K.Carrier → Vector K
    row_of (gen g) = place K (generator_number g)
    row_of none = vzero K
    row_of (sum_of es) = rows_of_all es
    row_of (multiple c e) = scale K c (row_of e)
    row_of (bracket_of e f) = outer K T number (val K T e) (val K T f)

    pub rows_of_all : Trees K.Carrier → Vector K
    rows_of_all end = vzero K
    rows_of_all (more e es) = vplus K (row_of e) (rows_of_all es)

-- [b_i, [b_j, b_k]] - [[b_i, b_j], b_k] - (-1)^(|b_i||b_j|) [b_j, [b_i, b_k]]
unfoldable pub jacobi_row : (K : Field) → Table K → (ℕ → ℕ → ℕ) → ℕ → ℕ → ℕ → Vector K
jacobi_row K T number i j k =
    vplus K (outer K T number (place K i) (bracket K T (place K j) (place K k)))
    (scale K (K.minus K.unit)
    (vplus K (outer K T number (bracket K T (place K i) (place K j)) (place K k))
    (scale K (sign K (parity_at T i) (parity_at T j)) (outer K T number (place K j) (bracket K T (place K i) (place K k))))))

module _ (K : Field) (P : Presentation K.Carrier) (T : Table K) where
  abbrev pub relation_row : ℕ → Vector K
  relation_row k =
      vplus K (row_of K T (pair_number P T) (generator_number P T) (left P k)) (scale K (K.minus K.unit)
      (row_of K T (pair_number P T) (generator_number P T) (right P k)))

  -- [b_i, [b_i, b_i]]
  abbrev pub cube_row : ℕ → Vector K
  cube_row i = outer K T (pair_number P T) (place K i) (bracket K T (place K i) (place K i))

  pub data IsSource : Vector K → Type 0 where
    of_relation : (k : ℕ) → k < length P.relations → weight_of_both P (left P k) (right P k) ≡ exact (suc T.weight) → IsSource (relation_row k)
    of_triple : (i j k : ℕ) → i ≤ j → j ≤ k → k < length T.basis → weight_at T i + weight_at T j + weight_at T k ≡ suc T.weight →
        IsSource (jacobi_row K T (pair_number P T) i j k)
    of_cube : (i : ℕ) → three K ≡ K.nought → i < length T.basis → parity_at T i ≡ odd → weight_at T i + weight_at T i + weight_at T i ≡ suc T.weight →
        IsSource (cube_row i)
