-- The generators of a table are enough, over a field K: for its centre, its lower central series and its ideals. Basis elements count from 0.
--
--   IsGenerator              a basis element whose symbol is a generator
--   IsGenerated              a basis element whose symbol is a pair is the bracket of that pair, and both stand before it
--   IsGeneratorBracket       the bracket of a generator and a vector of a kind
--   IsGeneratorUnit          the bracket of a generator and one of n rows
--   IsGeneratorRound         the rows of a round: those before, and their brackets with the generators
--   IsGeneratorRow           the numbers at the basis elements b_i are the coefficients of b_t in [b_i, b_j], for a generator b_j
--   IsGeneratorPlace         a generator, as a vector
--   if_generator             a vector, where the symbol is a generator, and 0 where it is a pair
--   generator_bracket        the bracket of basis element i with a vector, where it is a generator, and 0 where it isn't
--   InGeneratedIdeal         the least space that holds the vectors of S and is closed under bracket with each generator
use Rattle.std.specs.Prelude.{ℕ, ◌≡◌, ◌<◌, ◌⊎◌, length}
use Rattle.math_fields.specs.Field.{Field}
use Rattle.math_linear.specs.Vector.{Vector, vzero, place}
use Rattle.math_linear.specs.Span.{IsRowOf}
use Rattle.math_algebra.specs.Table.{Table, Symbol, of_generator, of_pair, basis_at, product, bracket}
use Rattle.math_subspaces.specs.Subspaces.{Least}
use Rattle.math_structure.specs.Laws.{centre_row}

abbrev pub IsGenerator : {K : Field} → Table K → ℕ → Type 0
IsGenerator T i = (g : ℕ) × ((basis_at T i).symbol ≡ of_generator g)

pub record IsGenerated (K : Field) (T : Table K) : Type 0 where
  pub pairs : (i j k : ℕ) → i < length T.basis → (basis_at T i).symbol ≡ of_pair j k → (j < i) × (k < i) × (product K T j k ≡ place K i)

pub record IsGeneratorBracket (K : Field) (T : Table K) (Q : Vector K → Type 0) (v : Vector K) : Type 0 where
  pub left : ℕ
  pub right : Vector K
  pub of_table : left < length T.basis
  pub of_generator : IsGenerator T left
  pub of_kind : Q right
  pub is : v ≡ bracket K T (place K left) right

abbrev pub IsGeneratorUnit : (K : Field) → Table K → ℕ → (ℕ → Vector K) → Vector K → Type 0
IsGeneratorUnit K T n row v = (i j : ℕ) × (i < length T.basis) × IsGenerator T i × (j < n) × (v ≡ bracket K T (place K i) (row j))

abbrev pub IsGeneratorRound : (K : Field) → Table K → ℕ → (ℕ → Vector K) → Vector K → Type 0
IsGeneratorRound K T n row v = IsRowOf K n row v ⊎ IsGeneratorUnit K T n row v

abbrev pub IsGeneratorRow : (K : Field) → Table K → Vector K → Type 0
IsGeneratorRow K T u = (j t : ℕ) × (j < length T.basis) × IsGenerator T j × (t < length T.basis) × (u ≡ centre_row K T j t)

abbrev pub IsGeneratorPlace : (K : Field) → Table K → Vector K → Type 0
IsGeneratorPlace K T v = (i : ℕ) × (i < length T.basis) × IsGenerator T i × (v ≡ place K i)

abbrev pub if_generator : (K : Field) → Symbol → Vector K → Vector K
if_generator K (of_generator g) v = v
if_generator K (of_pair j k) v = vzero K

abbrev pub generator_bracket : (K : Field) → Table K → ℕ → Vector K → Vector K
generator_bracket K T i v = if_generator K (basis_at T i).symbol (bracket K T (place K i) v)

abbrev pub InGeneratedIdeal : (K : Field) → Table K → (Vector K → Type 0) → Vector K → Type 0
InGeneratedIdeal K T S v = Least K (generator_bracket K T) S v
