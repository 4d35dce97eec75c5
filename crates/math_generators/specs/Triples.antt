-- Triples of basis elements behind the last generator give no source row that the others don't. Basis elements count from 0.
--
--   IsEarlySource            the source rows of relations and cubes, and of triples whose first member is below a bound
--   LateTriplesFollow        where no generator of a built table is at the bound or past it, a linear function that is 0 at each early source row is 0 at
--                            each source row
use Rattle.std.specs.Prelude.{ℕ, suc, ◌≡◌, ◌<◌, ◌≤◌, ◌+◌, length}
use Rattle.math_fields.specs.Field.{Field}
use Rattle.math_linear.specs.Vector.{Vector, vzero}
use Rattle.math_linear.specs.Linear.{IsLinear}
use Rattle.math_algebra.specs.Tree.{Presentation, odd, left, right}
use Rattle.math_algebra.specs.Degrees.{exact, weight_of_both, IsSoundPresentation}
use Rattle.math_algebra.specs.Derives.{three}
use Rattle.math_algebra.specs.Table.{Table, weight_at, parity_at}
use Rattle.math_algebra.specs.Symbols.{pair_number}
use Rattle.math_algebra.specs.SourceRows.{jacobi_row, relation_row, cube_row, IsSource}
use Rattle.math_algebra.specs.Built.{Built}
use Rattle.math_generators.specs.Generated.{IsGenerator}

pub data IsEarlySource (K : Field) (P : Presentation K.Carrier) (T : Table K) (bound : ℕ) : Vector K → Type 0 where
  early_relation : (k : ℕ) → k < length P.relations → weight_of_both P (left P k) (right P k) ≡ exact (suc T.weight) →
      IsEarlySource K P T bound (relation_row K P T k)
  early_triple : (i j k : ℕ) → i < bound → i ≤ j → j ≤ k → k < length T.basis → weight_at T i + weight_at T j + weight_at T k ≡ suc T.weight →
      IsEarlySource K P T bound (jacobi_row K T (pair_number P T) i j k)
  early_cube : (i : ℕ) → three K ≡ K.nought → i < length T.basis → parity_at T i ≡ odd → weight_at T i + weight_at T i + weight_at T i ≡ suc T.weight →
      IsEarlySource K P T bound (cube_row K P T i)

abbrev pub LateTriplesFollow : Field → Type 0
LateTriplesFollow K =
    (P : Presentation K.Carrier) → IsSoundPresentation P → (T : Table K) → Built K P T → (bound : ℕ) →
    ((i : ℕ) → i < length T.basis → IsGenerator T i → i < bound) → (f : Vector K → Vector K) → IsLinear K f →
    ((v : Vector K) → IsEarlySource K P T bound v → f v ≡ vzero K) → (v : Vector K) → IsSource K P T v → f v ≡ vzero K
