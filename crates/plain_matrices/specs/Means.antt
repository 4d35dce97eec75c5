-- What the plain run of supermatrices means.
--
--   matrix_by K value n xs   the matrix of n rows and n columns, with the values of the numbers; 0 outside
--   matrix_in k n xs         the same, over the field of a kind
--   AreImages                a matrix for each generator, 0 but in the blocks of its parity
--   BracketMeans             the numbers of the bracket are those of the bracket of the matrices
--   NumbersMean              the numbers of an expression are those of its matrix
--   MatricesAreOne           numbers of one matrix are equal
use Rattle.std.specs.Prelude.{ℕ, ◌≡◌, ◌+◌, ◌*◌, List, [], length, slice_index, get_or, cond, nat_lt, All}
use Rattle.math_fields.specs.Field.{Field}
use Rattle.fpl_numbers.specs.declared.number.Num.{Num}
use Rattle.fpl_numbers.specs.declared.number.Kind.{Kind}
use Rattle.fpl_numbers.specs.declared.number.Kind.TheVariants.{Prime}
use Rattle.fpl_numbers.specs.Numbers.{IsListed, residue}
use Rattle.fpl_numbers.specs.Kinds.{field_of, number_of}
use Rattle.math_algebra.specs.Tree.{Tree}
use Rattle.math_matrices.specs.Matrices.{Matrix, matrix_of, mbracket}
use Rattle.fpl_model.specs.Meaning.{in_field}
use Rattle.fpl_model.specs.Sound.{IsTerm}
use Rattle.plain_matrices.specs.Plain.{IsSquare, bracket_numbers, numbers_of}

unfoldable pub matrix_by : (K : Field) → (ℕ → K.Carrier) → ℕ → List ℕ → Matrix K
matrix_by K value n xs r c = cond (nat_lt r n) (cond (nat_lt c n) (value (slice_index xs (r * n + c))) K.nought) K.nought

abbrev pub matrix_in : (k : Kind) → ℕ → List ℕ → Matrix (field_of k)
matrix_in k n xs = matrix_by (field_of k) (λ a. number_of k (residue a)) n xs

abbrev pub BracketMeans : Type 0
BracketMeans =
    (k : Kind) (p m n : ℕ) → k ≡ Prime p → IsListed p → (xs ys : List ℕ) → IsSquare p n xs → IsSquare p n ys →
    IsSquare p n (bracket_numbers p m n xs ys) × (matrix_in k n (bracket_numbers p m n xs ys) ≡ mbracket (field_of k) m n (matrix_in k n xs) (matrix_in k n ys))

-- the matrices of the generators
abbrev pub image_in : (k : Kind) → ℕ → List (List ℕ) → ℕ → Matrix (field_of k)
image_in k n images g = matrix_in k n (get_or images g [])

abbrev pub NumbersMean : Type 0
NumbersMean =
    (k : Kind) (p m n : ℕ) → k ≡ Prime p → IsListed p → (images : List (List ℕ)) → All (IsSquare p n) images →
    (t : Tree Num) → IsTerm k (length images) t →
    IsSquare p n (numbers_of p m n images t) × (matrix_in k n (numbers_of p m n images t) ≡ matrix_of (field_of k) m n (image_in k n images) (in_field k t))

abbrev pub MatricesAreOne : Type 0
MatricesAreOne =
    (k : Kind) (p n : ℕ) → k ≡ Prime p → IsListed p → (xs ys : List ℕ) → IsSquare p n xs → IsSquare p n ys → matrix_in k n xs ≡ matrix_in k n ys → xs ≡ ys
