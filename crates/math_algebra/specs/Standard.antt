-- The standard table, without elimination and without rows.
--
--   combined         the sum of v i times the expression i, for i below n
--   IsCombination    the symbol at place s is derivably equal to a combination of smaller symbols of its weight
--   IsStandardNext   T' adds to T the symbols of the next weight that are not such combinations, and its images and entries of that weight are what
--                    their symbols are derivably equal to; tree and tree' are the expressions of the basis elements
--   IsStandard       the standard table of P through its weight, with the expressions of its basis elements
use Rattle.std.specs.Prelude.{ℕ, zero, suc, [], ◌∷◌, ◌≡◌, ◌+◌, ◌<◌, length}
use Rattle.math_fields.specs.Field.{Field}
use Rattle.math_linear.specs.Vector.{Vector}
use Rattle.math_algebra.specs.Tree.{gen, none, multiple, bracket_of, Presentation, generator}
use Rattle.math_algebra.specs.Derives.{Derives, Expression, sum_all}
use Rattle.math_algebra.specs.Table.{Table, weight_at, IsRegular, IsOf}
use Rattle.math_algebra.specs.Symbols.{symbols, symbol_at, symbol_tree}
use Rattle.math_algebra.specs.Extending.{AreThose, AddsBasis, Keeps, IsEmpty}

unfoldable pub combined : (K : Field) → (ℕ → Expression K) → ℕ → Vector K → Expression K
combined K tree zero v = none
combined K tree (suc n) v = sum_all K (combined K tree n v ∷ multiple (v n) (tree n) ∷ [])

pub record IsCombination (K : Field) (P : Presentation K.Carrier) (T : Table K) (tree : ℕ → Expression K) (s : ℕ) : Type 0 where
  pub what : Vector K
  pub equal : Derives K P (symbol_tree tree (symbol_at P T s)) (combined K (λ t. symbol_tree tree (symbol_at P T t)) s what)

pub record IsStandardNext (K : Field) (P : Presentation K.Carrier) (T T' : Table K) (tree tree' : ℕ → Expression K) : Type 0 where
  pub count : ℕ
  pub slot : ℕ → ℕ
  pub fresh : AreThose (length (symbols P T)) (λ s. IsCombination K P T tree s → ⊥) count slot
  pub basis : AddsBasis K P T T' count slot
  pub keeps : Keeps K P T T'
  pub old_tree : (i : ℕ) → i < length T.basis → tree' i ≡ tree i
  pub new_tree : (i : ℕ) → i < count → tree' (length T.basis + i) ≡ symbol_tree tree (symbol_at P T (slot i))
  pub image_of : (g : ℕ) → g < length P.generators → (generator P g).weight ≡ suc T.weight → IsOf K T' (suc T.weight) (T'.image g)
  pub images : (g : ℕ) → g < length P.generators → (generator P g).weight ≡ suc T.weight → Derives K P (gen g) (combined K tree' (length T'.basis) (T'.image g))
  pub entry_of : (i j : ℕ) → i < length T.basis → j < length T.basis → IsRegular T i j → weight_at T i + weight_at T j ≡ suc T.weight →
      IsOf K T' (suc T.weight) (T'.entry i j)
  pub entries : (i j : ℕ) → i < length T.basis → j < length T.basis → IsRegular T i j → weight_at T i + weight_at T j ≡ suc T.weight →
      Derives K P (bracket_of (tree i) (tree j)) (combined K tree' (length T'.basis) (T'.entry i j))

pub data IsStandard (K : Field) (P : Presentation K.Carrier) : Table K → (ℕ → Expression K) → Type 0 where
  standard_start : {T : Table K} (tree : ℕ → Expression K) → IsEmpty K P T → IsStandard K P T tree
  standard_next : {T T' : Table K} {tree tree' : ℕ → Expression K} → IsStandard K P T tree → IsStandardNext K P T T' tree tree' → IsStandard K P T' tree'
