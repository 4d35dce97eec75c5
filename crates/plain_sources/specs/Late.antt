-- Triples behind the last generator: over a prime other than 3 their rows follow from those of the other origins.
--
--   first_of o          the number of the first basis element of a triple, counted from 1; 0 for another origin
--   is_late bound o     the test for a triple whose first basis element is numbered above a bound
--   IsReach T bound     no triple is late, or the field is a prime other than 3 and no generator is numbered above the bound
--   IsCut bound os      a list of origins begins with a late one, or is empty
--   Follows k done os vector   a linear function that is 0 at the vectors of the first origins is 0 at those of the rest
--   LateComeLast        what comes behind a late origin of a weight is late
--   LateFollow          the vectors of the late origins follow those of all origins before them
use Rattle.std.specs.Prelude.{ℕ, ◌≡◌, ◌≢◌, ◌<◌, ◌≤◌, ◌⊎◌, List, [], ◌∷◌, ◌++◌, length, Bool, true, nat_lt, Contains}
use Rattle.math_linear.specs.Vector.{Vector, vzero}
use Rattle.math_linear.specs.Linear.{IsLinear}
use Rattle.math_algebra.specs.Table.{of_generator}
use Rattle.fpl_numbers.specs.declared.number.Kind.{Kind}
use Rattle.fpl_numbers.specs.declared.number.Kind.TheVariants.{Prime}
use Rattle.fpl_numbers.specs.Kinds.{field_of}
use Rattle.fpl_model.specs.declared.presentation.Presentation.{Presentation}
use Rattle.fpl_model.specs.Meaning.{presentation_in}
use Rattle.fpl_log.specs.declared.step.Origin.{Origin}
use Rattle.fpl_log.specs.declared.step.Origin.TheVariants.{Relation, Jacobi, Cube, Row}
use Rattle.fpl_table.specs.Plain.{PlainTable, plain_basis, table_in}
use Rattle.fpl_rewrite.specs.Origins.{origins_of}
use Rattle.plain_tables.specs.Holds.{Holds}
use Rattle.plain_sources.specs.TableLaws.{vector_of_origin}

abbrev pub first_of : Origin → ℕ
first_of (Relation r) = 0
first_of (Jacobi i j k) = i
first_of (Cube i) = 0
first_of (Row n) = 0

abbrev pub is_late : ℕ → Origin → Bool
is_late bound o = nat_lt bound (first_of o)

abbrev pub IsOtherPrime : Kind → Type 0
IsOtherPrime k = (n : ℕ) × (k ≡ Prime n) × (n ≢ 3)

abbrev pub IsReach : PlainTable → ℕ → Type 0
IsReach T bound =
    (length T.basis ≤ bound)
    ⊎ (IsOtherPrime T.kind × ((i g : ℕ) → i < length T.basis → (plain_basis T i).symbol ≡ of_generator g → i < bound))

abbrev pub IsCut : ℕ → List Origin → Type 0
IsCut bound [] = Unit {0}
IsCut bound (o ∷ os) = is_late bound o ≡ true

abbrev pub Follows : (k : Kind) → (done os : List Origin) → (Origin → Vector (field_of k)) → Type 0
Follows k done os vector =
    (f : Vector (field_of k) → Vector (field_of k)) → IsLinear (field_of k) f → ((o : Origin) → Contains done o → f (vector o) ≡ vzero (field_of k)) →
    (o : Origin) → Contains os o → f (vector o) ≡ vzero (field_of k)

abbrev pub LateComeLast : Presentation → Type 0
LateComeLast p =
    (T : PlainTable) (bound : ℕ) → IsReach T bound → (done os : List Origin) → done ++ os ≡ origins_of T p → IsCut bound os → (o : Origin) →
    Contains os o → is_late bound o ≡ true

abbrev pub LateFollow : Presentation → Type 0
LateFollow p =
    (T : PlainTable) (bound : ℕ) → Holds p T → IsReach T bound → (done os : List Origin) → done ++ os ≡ origins_of T p → IsCut bound os →
    Follows p.field done os (λ o. vector_of_origin (field_of p.field) (presentation_in p) (table_in p.field T) o)
