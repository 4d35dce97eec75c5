-- Theorems on the generators of a table, over a field K. The law of P is needed wherever brackets of brackets are taken apart.
--
--   BuiltIsGenerated         a built table is generated
--   AllFromGenerators        each vector of T is found from the generators by sums, multiples and brackets with the generators
--   CentreByGenerators       a vector of T whose bracket with each generator is 0 is central
--   CentreIsKernelOf         the centre is the kernel of the rows of the generators
--   TermByGenerators         the brackets of the generators with the vectors of a term span the next term
--   TermByGeneratorRows      so do their brackets with rows that span the term
--   ClosedByGenerators       rows whose span holds their brackets with the generators span a space that is closed under bracket with T
--   IdealByGenerators        what vectors give by brackets with the generators is their ideal
--   IdealByGeneratorRounds   rows within the ideal that hold the given vectors, and to which a round of brackets with the generators adds nothing, span
--                            exactly the ideal
--   GeneratorRoundsStay      what rows of the ideal and such a round span stays in it
--   GeneratorRoundsStop      such a round whose closed form has no more rows than before adds nothing
use Rattle.std.specs.Prelude.{ℕ, suc, ◌≡◌, ◌<◌, ◌↔◌, length}
use Rattle.math_fields.specs.Field.{Field}
use Rattle.math_linear.specs.Vector.{Vector, vzero, place}
use Rattle.math_linear.specs.Span.{Spanned, InSpan, IsRowOf}
use Rattle.math_linear.specs.Closed.{IsClosed}
use Rattle.math_linear.specs.Kernel.{IsSolution}
use Rattle.math_algebra.specs.Tree.{Presentation}
use Rattle.math_algebra.specs.Degrees.{IsSoundPresentation}
use Rattle.math_algebra.specs.Table.{Table, bracket, ObeysLaw}
use Rattle.math_algebra.specs.Built.{Built}
use Rattle.math_structure.specs.Structure.{IsVectorOf, IsCentral, term, InIdeal}
use Rattle.math_structure.specs.Laws.{IsClosedUnder}
use Rattle.math_generators.specs.Generated.{IsGenerator, IsGenerated, IsGeneratorBracket, IsGeneratorUnit, IsGeneratorRound, IsGeneratorRow, IsGeneratorPlace, InGeneratedIdeal}

abbrev pub BuiltIsGenerated : Field → Type 0
BuiltIsGenerated K = (P : Presentation K.Carrier) → IsSoundPresentation P → (T : Table K) → Built K P T → IsGenerated K T

abbrev pub AllFromGenerators : Field → Type 0
AllFromGenerators K =
    (P : Presentation K.Carrier) (T : Table K) → ObeysLaw K P T → IsGenerated K T → (x : Vector K) → IsVectorOf K T x →
    InGeneratedIdeal K T (IsGeneratorPlace K T) x

abbrev pub CentreByGenerators : Field → Type 0
CentreByGenerators K =
    (P : Presentation K.Carrier) (T : Table K) → ObeysLaw K P T → IsGenerated K T → (z : Vector K) → IsVectorOf K T z →
    ((i : ℕ) → i < length T.basis → IsGenerator T i → bracket K T z (place K i) ≡ vzero K) → IsCentral K T z

abbrev pub CentreIsKernelOf : Field → Type 0
CentreIsKernelOf K =
    (P : Presentation K.Carrier) (T : Table K) → ObeysLaw K P T → IsGenerated K T → (z : Vector K) →
    IsCentral K T z ↔ IsSolution K (length T.basis) (IsGeneratorRow K T) z

abbrev pub TermByGenerators : Field → Type 0
TermByGenerators K =
    (P : Presentation K.Carrier) (T : Table K) → ObeysLaw K P T → IsGenerated K T → (k : ℕ) (v : Vector K) →
    Spanned K (IsGeneratorBracket K T (term K T k)) v ↔ term K T (suc k) v

abbrev pub TermByGeneratorRows : Field → Type 0
TermByGeneratorRows K =
    (P : Presentation K.Carrier) (T : Table K) → ObeysLaw K P T → IsGenerated K T → (k n : ℕ) (row : ℕ → Vector K) →
    ((v : Vector K) → InSpan K n row v ↔ term K T k v) → (v : Vector K) → Spanned K (IsGeneratorUnit K T n row) v ↔ term K T (suc k) v

abbrev pub ClosedByGenerators : Field → Type 0
ClosedByGenerators K =
    (P : Presentation K.Carrier) (T : Table K) → ObeysLaw K P T → IsGenerated K T → (n : ℕ) (row : ℕ → Vector K) →
    ((v : Vector K) → IsGeneratorUnit K T n row v → InSpan K n row v) → IsClosedUnder K T n row

abbrev pub IdealByGenerators : Field → Type 0
IdealByGenerators K =
    (P : Presentation K.Carrier) (T : Table K) → ObeysLaw K P T → IsGenerated K T → (m : ℕ) (start : ℕ → Vector K) (v : Vector K) →
    InGeneratedIdeal K T (IsRowOf K m start) v ↔ InIdeal K T (IsRowOf K m start) v

abbrev pub IdealByGeneratorRounds : Field → Type 0
IdealByGeneratorRounds K =
    (P : Presentation K.Carrier) (T : Table K) → ObeysLaw K P T → IsGenerated K T → (m : ℕ) (start : ℕ → Vector K) (n : ℕ) (row : ℕ → Vector K) →
    ((k : ℕ) → k < m → InSpan K n row (start k)) → ((i : ℕ) → i < n → InIdeal K T (IsRowOf K m start) (row i)) →
    ((v : Vector K) → IsGeneratorUnit K T n row v → InSpan K n row v) → (v : Vector K) → InSpan K n row v ↔ InIdeal K T (IsRowOf K m start) v

abbrev pub GeneratorRoundsStay : Field → Type 0
GeneratorRoundsStay K =
    (T : Table K) (m : ℕ) (start : ℕ → Vector K) (n : ℕ) (row : ℕ → Vector K) → ((i : ℕ) → i < n → InIdeal K T (IsRowOf K m start) (row i)) →
    (v : Vector K) → Spanned K (IsGeneratorRound K T n row) v → InIdeal K T (IsRowOf K m start) v

abbrev pub GeneratorRoundsStop : Field → Type 0
GeneratorRoundsStop K =
    (T : Table K) (n : ℕ) (row row' : ℕ → Vector K) (pivot pivot' : ℕ → ℕ) → IsClosed K n row pivot → IsClosed K n row' pivot' →
    ((v : Vector K) → InSpan K n row' v ↔ Spanned K (IsGeneratorRound K T n row) v) → (v : Vector K) → IsGeneratorUnit K T n row v → InSpan K n row v
