-- Tables that are built weight by weight by closed rows of the source rows.
--
--   slot_of            the symbol that basis element k stands for, where it is one of the count new ones after the old ones
--   at_slot, relabel   a vector over symbols, read at the new basis elements
--   meaning_of         what a vector over symbols means in the next table: it is swept by the closed rows, and what is left stands at symbols of the
--                      basis
--   IsNext             T' is T with one weight more, by closed rows that span exactly the source rows: the symbols that are no pivot are the new
--                      basis, and images and entries of the new weight are what their symbols mean
--   Built              the tables that are built for P, from the empty one
use Rattle.std.specs.Prelude.{ℕ, suc, ◌≡◌, ◌≢◌, ◌+◌, ◌-◌, ◌<◌, length, cond, nat_lt, Option, Some, None}
use Rattle.math_fields.specs.Field.{Field}
use Rattle.math_linear.specs.Vector.{Vector, place}
use Rattle.math_linear.specs.Closed.{IsClosedForm, swept}
use Rattle.math_algebra.specs.Tree.{Presentation, generator}
use Rattle.math_algebra.specs.Table.{Table, weight_at, IsRegular}
use Rattle.math_algebra.specs.Symbols.{symbols, pair_number, generator_number}
use Rattle.math_algebra.specs.SourceRows.{IsSource}
use Rattle.math_algebra.specs.Extending.{AreThose, AddsBasis, Keeps, IsEmpty}

abbrev pub slot_of : ℕ → ℕ → (ℕ → ℕ) → ℕ → Option ℕ
slot_of old count slot k = cond (nat_lt k old) None (cond (nat_lt k (old + count)) (Some (slot (k - old))) None)

abbrev pub at_slot : (K : Field) → Vector K → Option ℕ → K.Carrier
at_slot K v None = K.nought
at_slot K v (Some s) = v s

unfoldable pub relabel : (K : Field) → (ℕ → Option ℕ) → Vector K → Vector K
relabel K slot v k = at_slot K v (slot k)

unfoldable pub meaning_of : (K : Field) (slot : ℕ → Option ℕ) (n : ℕ) (row : ℕ → Vector K) (pivot : ℕ → ℕ) → Vector K → Vector K
meaning_of K slot n row pivot v = relabel K slot (swept K n row pivot v)

pub record IsNext (K : Field) (P : Presentation K.Carrier) (T T' : Table K) : Type 0 where
  pub number_of_rows : ℕ
  pub row : ℕ → Vector K
  pub pivot : ℕ → ℕ
  pub count : ℕ
  pub slot : ℕ → ℕ
  pub form : IsClosedForm K (length (symbols P T)) (IsSource K P T) number_of_rows row pivot
  pub free : AreThose (length (symbols P T)) (λ s. (i : ℕ) → i < number_of_rows → pivot i ≢ s) count slot
  pub basis : AddsBasis K P T T' count slot
  pub keeps : Keeps K P T T'
  pub images : (g : ℕ) → g < length P.generators → (generator P g).weight ≡ suc T.weight →
      T'.image g ≡ meaning_of K (slot_of (length T.basis) count slot) number_of_rows row pivot (place K (generator_number P T g))
  pub entries : (i j : ℕ) → i < length T.basis → j < length T.basis → IsRegular T i j → weight_at T i + weight_at T j ≡ suc T.weight →
      T'.entry i j ≡ meaning_of K (slot_of (length T.basis) count slot) number_of_rows row pivot (place K (pair_number P T i j))

pub data Built (K : Field) (P : Presentation K.Carrier) : Table K → Type 0 where
  built_start : {T : Table K} → IsEmpty K P T → Built K P T
  built_next : {T T' : Table K} → Built K P T → IsNext K P T T' → Built K P T'
