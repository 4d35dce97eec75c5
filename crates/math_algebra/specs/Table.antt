-- Tables: what they hold, their bracket, values in them, and their law. Basis elements count from 0.
--
--   Symbol                           a generator, or the bracket of a pair of basis elements
--   Basis                            a basis element: its weight, its parity, and the symbol that it stands for
--   Table                            a weight, the basis, the image of each generator, and the entry of each regular pair; what stands at other pairs
--                                    says nothing
--   basis_at, weight_at, parity_at   a basis element by number, its weight and its parity
--   IsRegular                        a pair (i, j) with i < j, or i = j and b_i odd
--   with_itself, signed              [b_i, b_j] from the entries of the regular pairs
--   product                          [b_i, b_j] in the table: 0 where the weights sum to more than the table's
--   bracket                          the bracket of two vectors
--   val, vals                        the value of an expression
--   IsIn, IsOf                       a vector that is 0 but at basis elements of a parity, and of a weight
--   HasJacobi                        the Jacobi identity at three basis elements
--   IsGraded                         products lie in the sums of their parities
--   ObeysLaw                         super anticommutativity, Jacobi, cubes modulo 3, parities and weights of images and products, and the relations
use Rattle.std.specs.Prelude.{ℕ, List, ◌≡◌, ◌⊎◌, ◌+◌, length, get_or, ◌<◌, cond, nat_lt, nat_le}
use Rattle.math_fields.specs.Field.{Field}
use Rattle.math_linear.specs.Vector.{Vector, vzero, vplus, scale, place, bilinear}
use Rattle.math_algebra.specs.Tree.{Tree, Trees, gen, none, sum_of, multiple, bracket_of, end, more, Parity, even, odd, parity_sum, Presentation, generator, left, right}
use Rattle.math_algebra.specs.Derives.{sign, three}

pub data Symbol : Type 0 where
  of_generator : ℕ → Symbol
  of_pair : ℕ → ℕ → Symbol

pub record Basis : Type 0 where
  pub weight : ℕ
  pub parity : Parity
  pub symbol : Symbol

pub record Table (K : Field) : Type 0 where
  pub weight : ℕ
  pub basis : List Basis
  pub image : ℕ → Vector K
  pub entry : ℕ → ℕ → Vector K

abbrev pub no_basis : Basis
no_basis = record { weight = 0; parity = even; symbol = of_generator 0 }

abbrev pub basis_at : {K : Field} → Table K → ℕ → Basis
basis_at T i = get_or T.basis i no_basis

abbrev pub weight_at : {K : Field} → Table K → ℕ → ℕ
weight_at T i = (basis_at T i).weight

abbrev pub parity_at : {K : Field} → Table K → ℕ → Parity
parity_at T i = (basis_at T i).parity

abbrev pub IsRegular : {K : Field} → Table K → ℕ → ℕ → Type 0
IsRegular T i j = (i < j) ⊎ ((i ≡ j) × (parity_at T i ≡ odd))

-- [b_i, b_i]: the entry where b_i is odd, and 0 where it is even
abbrev pub with_itself : (K : Field) → Parity → Vector K → Vector K
with_itself K even v = vzero K
with_itself K odd v = v

-- [b_i, b_j] is minus (-1)^(|b_i||b_j|) times the entry of (j, i) where j < i
unfoldable pub signed : (K : Field) → (ℕ → Parity) → (ℕ → ℕ → Vector K) → ℕ → ℕ → Vector K
signed K parity entry i j =
    cond (nat_lt i j) (entry i j)
    (cond (nat_lt j i) (scale K (K.minus (sign K (parity i) (parity j))) (entry j i))
    (with_itself K (parity i) (entry i i)))

unfoldable pub product : (K : Field) → Table K → ℕ → ℕ → Vector K
product K T i j = cond (nat_le (weight_at T i + weight_at T j) T.weight) (signed K (parity_at T) T.entry i j) (vzero K)

unfoldable pub bracket : (K : Field) → Table K → Vector K → Vector K → Vector K
bracket K T x y = bilinear K (length T.basis) (product K T) x y

module _ (K : Field) (T : Table K) where
  unfoldable mutual
    pub val : Tree K.Carrier → Vector K
    val (gen g) = T.image g
    val none = vzero K
    val (sum_of es) = vals es
    val (multiple c e) = scale K c (val e)
    val (bracket_of e f) = bracket K T (val e) (val f)

    pub vals : Trees K.Carrier → Vector K
    vals end = vzero K
    vals (more e es) = vplus K (val e) (vals es)

abbrev pub IsIn : (K : Field) → Table K → Parity → Vector K → Type 0
IsIn K T s x = (i : ℕ) → (x i ≡ K.nought) ⊎ ((i < length T.basis) × (parity_at T i ≡ s))

abbrev pub IsOf : (K : Field) → Table K → ℕ → Vector K → Type 0
IsOf K T d x = (i : ℕ) → (x i ≡ K.nought) ⊎ ((i < length T.basis) × (weight_at T i ≡ d))

-- [b_i, [b_j, b_k]] = [[b_i, b_j], b_k] + (-1)^(|b_i||b_j|) [b_j, [b_i, b_k]]
abbrev pub HasJacobi : (K : Field) → Table K → ℕ → ℕ → ℕ → Type 0
HasJacobi K T i j k =
    bracket K T (place K i) (bracket K T (place K j) (place K k))
    ≡ vplus K (bracket K T (bracket K T (place K i) (place K j)) (place K k))
    (scale K (sign K (parity_at T i) (parity_at T j)) (bracket K T (place K j) (bracket K T (place K i) (place K k))))

pub record IsGraded (K : Field) (T : Table K) : Type 0 where
  pub entry_in : (i j : ℕ) → i < length T.basis → j < length T.basis → IsIn K T (parity_sum (parity_at T i) (parity_at T j)) (product K T i j)

pub record ObeysLaw (K : Field) (P : Presentation K.Carrier) (T : Table K) : Type 0 where
  pub graded : IsGraded K T
  pub image_in : (g : ℕ) → g < length P.generators → IsIn K T (generator P g).parity (T.image g)
  pub entry_of : (i j : ℕ) → i < length T.basis → j < length T.basis → IsOf K T (weight_at T i + weight_at T j) (product K T i j)
  pub image_of : (g : ℕ) → g < length P.generators → IsOf K T (generator P g).weight (T.image g)
  pub exchanges : (i j : ℕ) → i < length T.basis → j < length T.basis →
      bracket K T (place K i) (place K j) ≡ scale K (K.minus (sign K (parity_at T i) (parity_at T j))) (bracket K T (place K j) (place K i))
  pub jacobis : (i j k : ℕ) → i < length T.basis → j < length T.basis → k < length T.basis → HasJacobi K T i j k
  pub cubes : three K ≡ K.nought → (i : ℕ) → i < length T.basis → parity_at T i ≡ odd →
      bracket K T (place K i) (bracket K T (place K i) (place K i)) ≡ vzero K
  pub relations : (k : ℕ) → k < length P.relations → val K T (left P k) ≡ val K T (right P k)
