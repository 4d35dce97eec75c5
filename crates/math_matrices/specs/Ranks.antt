-- The vectors of the matrices of all expressions of a weight, and those of a table's basis elements of that weight.
--
--   flat                 the numbers of a matrix row by row, as a vector
--   IsMatrixOfWeight     the vector of the matrix of some expression over P of a weight
--   IsMatrixOfBasis      the vector of the matrix of some basis element of a weight
--   BasisSpansWeight     where the matrices respect P, both kinds have one span, for the standard table and each weight within it
use Rattle.std.specs.Prelude.{ℕ, ◌≡◌, ◌<◌, ◌≤◌, ◌*◌, ◌/◌, ◌%◌, ◌↔◌, length, cond, nat_lt}
use Rattle.math_fields.specs.Field.{Field}
use Rattle.math_linear.specs.Vector.{Vector}
use Rattle.math_linear.specs.Span.{Spanned}
use Rattle.math_algebra.specs.Tree.{Presentation, generator, IsOver}
use Rattle.math_algebra.specs.Degrees.{weight_of, exact, IsSoundPresentation}
use Rattle.math_algebra.specs.Derives.{Expression}
use Rattle.math_algebra.specs.Table.{Table, weight_at}
use Rattle.math_algebra.specs.Standard.{IsStandard}
use Rattle.math_matrices.specs.Matrices.{Matrix, HasBlock, matrix_of, Respects}

-- 0 past the numbers of the matrix
unfoldable pub flat : (K : Field) → ℕ → Matrix K → Vector K
flat K n x s = cond (nat_lt s (n * n)) (x (s / n) (s % n)) K.nought

pub record IsMatrixOfWeight (K : Field) (P : Presentation K.Carrier) (m n : ℕ) (image : ℕ → Matrix K) (w : ℕ) (v : Vector K) : Type 0 where
  pub expression : Expression K
  pub over : IsOver P expression
  pub weight : weight_of P expression ≡ exact w
  pub numbers : v ≡ flat K n (matrix_of K m n image expression)

pub record IsMatrixOfBasis (K : Field) (T : Table K) (tree : ℕ → Expression K) (m n : ℕ) (image : ℕ → Matrix K) (w : ℕ) (v : Vector K) : Type 0 where
  pub element : ℕ
  pub there : element < length T.basis
  pub weight : weight_at T element ≡ w
  pub numbers : v ≡ flat K n (matrix_of K m n image (tree element))

abbrev pub BasisSpansWeight : Field → Type 0
BasisSpansWeight K =
    (P : Presentation K.Carrier) → IsSoundPresentation P → (T : Table K) (tree : ℕ → Expression K) → IsStandard K P T tree →
    (m n : ℕ) (image : ℕ → Matrix K) → ((g : ℕ) → g < length P.generators → HasBlock K m (generator P g).parity (image g)) →
    Respects K P m n image → (w : ℕ) → w ≤ T.weight → (v : Vector K) →
    Spanned K (IsMatrixOfWeight K P m n image w) v ↔ Spanned K (IsMatrixOfBasis K T tree m n image w) v
