-- Tables with one weight more, parts of tables, and tables that agree.
--
--   AreThose    the count places slot 0 < slot 1 < .. below m are those of the kind S
--   AddsBasis   T' has the basis of T, and then the symbols of the next weight at the places that slot names, with their weight and parity
--   Keeps       images of weights up to the old one and entries of pairs of such weights stay, and images past the new weight are 0
--   IsEmpty     the table of weight 0
--   Agree       two tables that agree wherever a table says something
--   IsLower     S is the part of T through its weight
use Rattle.std.specs.Prelude.{ℕ, suc, ◌≡◌, ◌+◌, ◌<◌, ◌≤◌, length}
use Rattle.math_fields.specs.Field.{Field}
use Rattle.math_linear.specs.Vector.{vzero}
use Rattle.math_algebra.specs.Tree.{Presentation, generator}
use Rattle.math_algebra.specs.Table.{Table, basis_at, weight_at, IsRegular}
use Rattle.math_algebra.specs.Symbols.{symbol_at, symbol_parity}

pub record AreThose (m : ℕ) (S : ℕ → Type 0) (count : ℕ) (slot : ℕ → ℕ) : Type 0 where
  pub there : (i : ℕ) → i < count → (slot i < m) × S (slot i)
  pub ascend : (i j : ℕ) → i < j → j < count → slot i < slot j
  pub all : (s : ℕ) → s < m → S s → (i : ℕ) × (i < count) × (slot i ≡ s)

pub record AddsBasis (K : Field) (P : Presentation K.Carrier) (T T' : Table K) (count : ℕ) (slot : ℕ → ℕ) : Type 0 where
  pub weight : T'.weight ≡ suc T.weight
  pub more : length T'.basis ≡ length T.basis + count
  pub old : (i : ℕ) → i < length T.basis → basis_at T' i ≡ basis_at T i
  pub added : (i : ℕ) → i < count →
      basis_at T' (length T.basis + i) ≡ record { weight = suc T.weight; parity = symbol_parity P T (symbol_at P T (slot i)); symbol = symbol_at P T (slot i) }

pub record Keeps (K : Field) (P : Presentation K.Carrier) (T T' : Table K) : Type 0 where
  pub images : (g : ℕ) → g < length P.generators → (generator P g).weight ≤ T.weight → T'.image g ≡ T.image g
  pub entries : (i j : ℕ) → i < length T.basis → j < length T.basis → IsRegular T i j → weight_at T i + weight_at T j ≤ T.weight → T'.entry i j ≡ T.entry i j
  pub past : (g : ℕ) → g < length P.generators → suc T.weight < (generator P g).weight → T'.image g ≡ vzero K

pub record IsEmpty (K : Field) (P : Presentation K.Carrier) (T : Table K) : Type 0 where
  pub weight : T.weight ≡ 0
  pub basis : length T.basis ≡ 0
  pub images : (g : ℕ) → g < length P.generators → T.image g ≡ vzero K

pub record Agree (K : Field) (P : Presentation K.Carrier) (T S : Table K) : Type 0 where
  pub weight : T.weight ≡ S.weight
  pub more : length T.basis ≡ length S.basis
  pub basis : (i : ℕ) → i < length T.basis → basis_at T i ≡ basis_at S i
  pub images : (g : ℕ) → g < length P.generators → T.image g ≡ S.image g
  pub entries : (i j : ℕ) → i < length T.basis → j < length T.basis → IsRegular T i j → weight_at T i + weight_at T j ≤ T.weight → T.entry i j ≡ S.entry i j

pub record IsLower (K : Field) (P : Presentation K.Carrier) (T S : Table K) : Type 0 where
  pub less : S.weight ≤ T.weight
  pub fewer : length S.basis ≤ length T.basis
  pub basis : (i : ℕ) → i < length S.basis → basis_at T i ≡ basis_at S i
  pub heavier : (i : ℕ) → length S.basis ≤ i → i < length T.basis → S.weight < weight_at T i
  pub lighter : (i : ℕ) → i < length S.basis → weight_at S i ≤ S.weight
  pub images : (g : ℕ) → g < length P.generators → (generator P g).weight ≤ S.weight → T.image g ≡ S.image g
  pub past : (g : ℕ) → g < length P.generators → S.weight < (generator P g).weight → S.image g ≡ vzero K
  pub entries : (i j : ℕ) → i < length S.basis → j < length S.basis → IsRegular S i j → weight_at S i + weight_at S j ≤ S.weight → T.entry i j ≡ S.entry i j
