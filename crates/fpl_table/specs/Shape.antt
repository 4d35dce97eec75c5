-- What every table of code keeps, beside the law of its algebra.
--
--   IsRowUpTo kind n row   a row of at most n numbers, which are canonical and fit
--   IsOfTable T x          a symbol over the generators and basis elements of T
--   IsBefore n x           a generator, or a pair of basis elements that stand before place n
--   partners T i w         how many j there are for which (i, j) is regular and of weight w
--   HasShape T             weights ascend and are within bounds; there is a row for each generator and each regular pair through the weight
--   basis_trees T          the bracket tree of each basis element, with generators counted from 1
--   Agrees T p             T and p have one kind of field, and the same weights and parities of generators
--   IsNumbered x           a symbol of code whose numbers count from 1
use Rattle.std.specs.Prelude.{ℕ, suc, ◌≡◌, ◌≤◌, ◌<◌, ◌+◌, ◌-◌, ◌*◌, List, [], ◌∷◌, ◌++◌, length, get_or}
use Rattle.fpl_numbers.specs.declared.number.Num.{Num}
use Rattle.fpl_numbers.specs.declared.number.Kind.{Kind}
use Rattle.fpl_numbers.specs.Numbers.{IsField}
use Rattle.fpl_scalar.specs.Vectors.{AreElements}
use Rattle.math_algebra.specs.Tree.{Tree, gen, none, bracket_of}
use Rattle.math_algebra.specs.Table.{Symbol, of_generator, of_pair, Basis}
use Rattle.fpl_model.specs.declared.presentation.Presentation.{Presentation}
use Rattle.fpl_model.specs.Meaning.{generators_in}
use Rattle.fpl_table.specs.declared.symbol.Symbol as code
use Rattle.fpl_table.specs.declared.symbol.Symbol.TheVariants.{Gen, Pair}
use Rattle.fpl_table.specs.Plain.{PlainTable, plain_basis, through, partner_from, generator_at}

pub record IsRowUpTo (kind : Kind) (n : ℕ) (row : List Num) : Type 0 where
  pub elements : AreElements kind row
  pub short : length row ≤ n

abbrev pub IsOfTable : PlainTable → Symbol → Type 0
IsOfTable T (of_generator g) = g < length T.generators
IsOfTable T (of_pair i j) = (i < length T.basis) × (j < length T.basis)

abbrev pub IsBefore : ℕ → Symbol → Type 0
IsBefore n (of_generator g) = Unit {0}
IsBefore n (of_pair i j) = (i < n) × (j < n)

abbrev pub partners : PlainTable → ℕ → ℕ → ℕ
partners T i w = through T (w - (plain_basis T i).weight) - partner_from T i w

abbrev pub images_at : PlainTable → ℕ → List (List Num)
images_at T v = get_or T.images v []

abbrev pub entries_at : PlainTable → ℕ → List (List (List Num))
entries_at T v = get_or T.entries v []

pub record HasShape (T : PlainTable) : Type 0 where
  pub field : IsField T.kind
  pub few : length T.generators ≤ 64
  pub weights : (g : ℕ) → g < length T.generators → (1 ≤ (generator_at T g).weight) × ((generator_at T g).weight ≤ 1000)
  pub weight : T.weight ≤ 1000
  pub small : length T.basis ≤ 2000000 * T.weight
  pub small_parts : (w : ℕ) → w ≤ T.weight → through T w ≤ 2000000 * w
  pub heavy : (i : ℕ) → i < length T.basis → 1 ≤ (plain_basis T i).weight
  pub light : (i : ℕ) → i < length T.basis → (plain_basis T i).weight ≤ T.weight
  pub ascend : (i j : ℕ) → i ≤ j → j < length T.basis → (plain_basis T i).weight ≤ (plain_basis T j).weight
  pub symbols : (i : ℕ) → i < length T.basis → IsOfTable T (plain_basis T i).symbol
  pub earlier : (i : ℕ) → i < length T.basis → IsBefore i (plain_basis T i).symbol
  pub images_length : length T.images ≡ T.weight
  pub image_lengths : (v : ℕ) → v < T.weight → length (images_at T v) ≡ length T.generators
  pub image_rows : (v g : ℕ) → v < T.weight → g < length T.generators → IsRowUpTo T.kind (through T (suc v)) (get_or (images_at T v) g [])
  pub entries_length : length T.entries ≡ T.weight
  pub entry_lengths : (v : ℕ) → v < T.weight → length (entries_at T v) ≡ through T v
  pub partner_lengths : (v i : ℕ) → v < T.weight → i < through T v → length (get_or (entries_at T v) i []) ≡ partners T i (suc v)
  pub entry_rows : (v i q : ℕ) → v < T.weight → i < through T v → q < partners T i (suc v) →
      IsRowUpTo T.kind (through T (suc v)) (get_or (get_or (entries_at T v) i []) q [])

abbrev pub symbol_tree_in : List (Tree Num) → Symbol → Tree Num
symbol_tree_in ts (of_generator g) = gen (g + 1)
symbol_tree_in ts (of_pair i j) = bracket_of (get_or ts i none) (get_or ts j none)

-- the trees ts, and those of further basis elements over them
unfoldable pub grown : List (Tree Num) → List Basis → List (Tree Num)
grown ts [] = ts
grown ts (b ∷ bs) = grown (ts ++ symbol_tree_in ts b.symbol ∷ []) bs

abbrev pub basis_trees : PlainTable → List (Tree Num)
basis_trees T = grown [] T.basis

abbrev pub Agrees : PlainTable → Presentation → Type 0
Agrees T p = (T.kind ≡ p.field) × (T.generators ≡ generators_in p)

abbrev pub IsNumbered : code.Symbol → Type 0
IsNumbered (Gen g) = 1 ≤ g
IsNumbered (Pair i j) = (1 ≤ i) × (1 ≤ j)
