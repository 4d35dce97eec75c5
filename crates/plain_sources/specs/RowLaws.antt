-- Operations on rows of plain numbers stand for those on vectors, over the field of kind k. Places count from 0.
--
--   Stands k n v row        a row of n elements that stands for the vector v
--   ZeroRowStands           zero_row n stands for 0
--   AddAtStands             added_at adds a multiple of the vector with 1 at the place
--   UnitMultiples           a product with 1 is the other factor, and one with -1 its negative; both fit: so adding a row, and taking it off, is place by place
--   AddRowStands            add_row adds
--   AxpyStands              axpy_of adds a multiple
--   ScaleStands             scale_of gives a multiple
--   NegativesStand          the negatives stand for minus the vector
use Rattle.std.specs.Prelude.{ℕ, ◌≡◌, ◌<◌, ◌≤◌, List, length, map, Ok}
use Rattle.math_linear.specs.Vector.{Vector, vzero, vplus, scale, place}
use Rattle.fpl_numbers.specs.declared.number.Num.{Num}
use Rattle.fpl_numbers.specs.declared.number.Kind.{Kind}
use Rattle.fpl_numbers.specs.declared.number.Op.TheVariants.{Mul}
use Rattle.fpl_numbers.specs.Numbers.{IsElement, operate, negative_of, residue}
use Rattle.fpl_numbers.specs.Kinds.{field_of, number_of}
use Rattle.fpl_scalar.specs.Vectors.{AreElements, axpy_of, scale_of}
use Rattle.fpl_rows.specs.Meaning.{vector_in}
use Rattle.fpl_rows.specs.Positions.{added_at}
use Rattle.fpl_table.specs.Value.{zero_row, add_row}
use Rattle.plain_sources.specs.Premises.{IsFor}

abbrev pub Stands : (k : Kind) → ℕ → Vector (field_of k) → List Num → Type 0
Stands k n v row = IsFor k (field_of k) (number_of k) n v row

abbrev pub ZeroRowStands : Kind → Type 0
ZeroRowStands k = (n : ℕ) → Stands k n (vzero (field_of k)) (zero_row n)

abbrev pub AddAtStands : Kind → Type 0
AddAtStands k =
    (n s : ℕ) (v : Vector (field_of k)) (row sum : List Num) (c : Num) → Stands k n v row → IsElement k c → s < n → added_at k row s c ≡ Ok sum →
    Stands k n (vplus (field_of k) v (scale (field_of k) (number_of k c) (place (field_of k) s))) sum

abbrev pub UnitMultiples : Kind → Type 0
UnitMultiples k =
    (c : Num) → IsElement k c → (operate k Mul (residue 1) c ≡ Ok c) × (operate k Mul (negative_of k (residue 1)) c ≡ Ok (negative_of k c))

abbrev pub AddRowStands : Kind → Type 0
AddRowStands k =
    (n : ℕ) (v : Vector (field_of k)) (row x sum : List Num) → Stands k n v row → AreElements k x → length x ≤ n → add_row k row x ≡ Ok sum →
    Stands k n (vplus (field_of k) v (vector_in k x)) sum

abbrev pub AxpyStands : Kind → Type 0
AxpyStands k =
    (n : ℕ) (v : Vector (field_of k)) (row x sum : List Num) (c : Num) → Stands k n v row → IsElement k c → AreElements k x → length x ≤ n →
    axpy_of k row c x ≡ Ok sum →
    Stands k n (vplus (field_of k) v (scale (field_of k) (number_of k c) (vector_in k x))) sum

abbrev pub ScaleStands : Kind → Type 0
ScaleStands k =
    (n : ℕ) (v : Vector (field_of k)) (row product : List Num) (c : Num) → Stands k n v row → IsElement k c → scale_of k c row ≡ Ok product →
    Stands k n (scale (field_of k) (number_of k c) v) product

abbrev pub NegativesStand : Kind → Type 0
NegativesStand k =
    (n : ℕ) (v : Vector (field_of k)) (row : List Num) → Stands k n v row →
    Stands k n (scale (field_of k) ((field_of k).minus (field_of k).unit) v) (map (negative_of k) row)
