-- Supermatrices over a field K: numbers at n rows and n columns, which count from 0. The first m rows and columns are even, the others odd.
--
--   Matrix                  a number at each row and column
--   mzero, mplus, mscale    the zero matrix, sums, and multiples
--   side, block             the parity of a row or column, and of the place where both meet
--   pick                    a number, where two parities are one, and 0 where they differ
--   part                    the even or odd part
--   mproduct                the product
--   part_bracket            X Y - (-1)^(st) Y X of the parts of parities s and t
--   mbracket                the bracket: the sum over all parts
--   HasBlock                0 but in the blocks of a parity
--   matrix_of               the matrix of an expression, from the generators'
--   Respects                both sides of each relation have one matrix
--   BracketIsCommutator     of matrices of parities s and t the bracket is X Y - (-1)^(st) Y X, and has the parity s + t
--   BracketIsSuper          for matrices with a parity it has super anticommutativity and the Jacobi identity
--   MatricesRespect         where the relations hold for the matrices, so does all that is derivable
use Rattle.std.specs.Prelude.{ℕ, ◌≡◌, ◌⊎◌, ◌<◌, length, cond, nat_lt}
use Rattle.math_fields.specs.Field.{Field}
use Rattle.math_linear.specs.Kernel.{product_sum}
use Rattle.math_algebra.specs.Tree.{Tree, Trees, gen, none, sum_of, multiple, bracket_of, end, more, Parity, even, odd, parity_sum, Presentation, generator, left, right}
use Rattle.math_algebra.specs.Derives.{Derives, Expression, sign}

abbrev pub Matrix : Field → Type 0
Matrix K = ℕ → ℕ → K.Carrier

unfoldable pub mzero : (K : Field) → Matrix K
mzero K r c = K.nought

unfoldable pub mplus : (K : Field) → Matrix K → Matrix K → Matrix K
mplus K x y r c = K.plus (x r c) (y r c)

unfoldable pub mscale : (K : Field) → K.Carrier → Matrix K → Matrix K
mscale K a x r c = K.times a (x r c)

abbrev pub side : ℕ → ℕ → Parity
side m r = cond (nat_lt r m) even odd

abbrev pub block : ℕ → ℕ → ℕ → Parity
block m r c = parity_sum (side m r) (side m c)

abbrev pub pick : (K : Field) → Parity → Parity → K.Carrier → K.Carrier
pick K even even x = x
pick K even odd x = K.nought
pick K odd even x = K.nought
pick K odd odd x = x

unfoldable pub part : (K : Field) → ℕ → Parity → Matrix K → Matrix K
part K m s x r c = pick K s (block m r c) (x r c)

unfoldable pub mproduct : (K : Field) → ℕ → Matrix K → Matrix K → Matrix K
mproduct K n x y r c = product_sum K n (λ k. x r k) (λ k. y k c)

unfoldable pub part_bracket : (K : Field) (m n : ℕ) → Parity → Parity → Matrix K → Matrix K → Matrix K
part_bracket K m n s t x y =
    mplus K (mproduct K n (part K m s x) (part K m t y)) (mscale K (K.minus (sign K s t)) (mproduct K n (part K m t y) (part K m s x)))

unfoldable pub mbracket : (K : Field) (m n : ℕ) → Matrix K → Matrix K → Matrix K
mbracket K m n x y =
    mplus K (mplus K (part_bracket K m n even even x y) (part_bracket K m n even odd x y))
    (mplus K (part_bracket K m n odd even x y) (part_bracket K m n odd odd x y))

abbrev pub HasBlock : (K : Field) → ℕ → Parity → Matrix K → Type 0
HasBlock K m s x = (r c : ℕ) → (x r c ≡ K.nought) ⊎ (block m r c ≡ s)

module _ (K : Field) (m n : ℕ) (image : ℕ → Matrix K) where
  unfoldable mutual
    pub matrix_of : Tree K.Carrier → Matrix K
    matrix_of (gen g) = image g
    matrix_of none = mzero K
    matrix_of (sum_of es) = matrices_of es
    matrix_of (multiple c e) = mscale K c (matrix_of e)
    matrix_of (bracket_of e f) = mbracket K m n (matrix_of e) (matrix_of f)

    pub matrices_of : Trees K.Carrier → Matrix K
    matrices_of end = mzero K
    matrices_of (more e es) = mplus K (matrix_of e) (matrices_of es)

abbrev pub Respects : (K : Field) → Presentation K.Carrier → (m n : ℕ) → (ℕ → Matrix K) → Type 0
Respects K P m n image = (k : ℕ) → k < length P.relations → matrix_of K m n image (left P k) ≡ matrix_of K m n image (right P k)

abbrev pub BracketIsCommutator : Field → Type 0
BracketIsCommutator K =
    (m n : ℕ) (s t : Parity) (x y : Matrix K) → HasBlock K m s x → HasBlock K m t y →
    (mbracket K m n x y ≡ mplus K (mproduct K n x y) (mscale K (K.minus (sign K s t)) (mproduct K n y x))) × HasBlock K m (parity_sum s t) (mbracket K m n x y)

abbrev pub BracketIsSuper : Field → Type 0
BracketIsSuper K =
    (m n : ℕ) (s t u : Parity) (x y z : Matrix K) → HasBlock K m s x → HasBlock K m t y → HasBlock K m u z →
    (mbracket K m n x y ≡ mscale K (K.minus (sign K s t)) (mbracket K m n y x))
    × (mbracket K m n x (mbracket K m n y z) ≡ mplus K (mbracket K m n (mbracket K m n x y) z) (mscale K (sign K s t) (mbracket K m n y (mbracket K m n x z))))

abbrev pub MatricesRespect : Field → Type 0
MatricesRespect K =
    (P : Presentation K.Carrier) (m n : ℕ) (image : ℕ → Matrix K) → ((g : ℕ) → g < length P.generators → HasBlock K m (generator P g).parity (image g)) →
    Respects K P m n image → (e f : Expression K) → Derives K P e f → matrix_of K m n image e ≡ matrix_of K m n image f
