-- What has bytes in the second version can be written.
use Rattle.std.proofs.Common.{ℕ, List, [], ◌∷◌, All, Option, Some, None, refl}
use Rattle.std.specs.Prelude.{IsSome}
use Rattle.std.specs.List.{AllByRecursion}
use Rattle.std.proofs.lemmas.List.Elements.{All-from_recursion}
use Rattle.fpl_numbers.specs.declared.number.Kind.{Kind}
use Rattle.fpl_numbers.specs.Numbers.{IsElement}
use Rattle.fpl_log.specs.declared.terms.Term.{Term}
use Rattle.fpl_log.specs.declared.step.Origin.{Origin}
use Rattle.fpl_log.specs.declared.step.Origin.TheVariants.{Relation, Jacobi, Cube, Row}
use Rattle.fpl_log.specs.declared.step.Step.{Step}
use Rattle.fpl_log.specs.declared.step.Step.TheVariants.{Insert, Close}
use Rattle.fpl_log.specs.declared.closed.Coefficient.{Coefficient}
use Rattle.fpl_log.specs.declared.section.Section.{Section}
use Rattle.fpl_bytes.specs.declared.version.Version.TheVariants.{Two}
use Rattle.fpl_section_bytes.specs.Stored.{IsStoredOrigin, IsStoredCount, IsStoredTerm, AreStoredTerms, IsStoredStep, IsStoredCoefficient, IsStoredRow, IsStoredSection, AreWritableTerms, IsWritableOrigin, IsWritableStep, IsWritableRow, IsWritable}

each : {A : Type 0} (P Q : A → Type 0) → ((x : A) → P x → Q x) → (xs : List A) → AllByRecursion P xs → AllByRecursion Q xs
each P Q f [] h = tt
each P Q f (x ∷ xs) h = (f x h.0, each P Q f xs h.1)

all : {A : Type 0} (P Q : A → Type 0) → ((x : A) → P x → Q x) → (xs : List A) → AllByRecursion P xs → All Q xs
all P Q f xs h = All-from_recursion Q xs (each P Q f xs h)

terms_writable : (kind : Kind) (ts : List Term) → AreStoredTerms Two kind ts → AreWritableTerms kind ts
terms_writable kind ts h = (h.0, all (IsStoredTerm Two kind) (λ t. IsElement kind t.factor) (λ t s. s.factor.element) ts h.1)

origin_writable : (o : Origin) → IsStoredOrigin Two o → IsWritableOrigin o
origin_writable (Relation r) h = tt
origin_writable (Jacobi i j k) h = tt
origin_writable (Cube i) h = tt
origin_writable (Row n) h = h

step_writable : (kind : Kind) (s : Step) → IsStoredStep Two kind s → IsWritableStep kind s
step_writable kind (Insert o ts k) h = (origin_writable o h.0, h.1.0.element, h.1.1, terms_writable kind ts h.2)
step_writable kind (Close n ts) h = terms_writable kind ts h.1

row_writable : (kind : Kind) (cs : List Coefficient) → IsStoredRow Two kind cs → IsWritableRow kind cs
row_writable kind cs h = (h.0, all (IsStoredCoefficient Two kind) (λ c. IsElement kind c.number) (λ c s. s.number.element) cs h.1)

pub stored_is_writable : (kind : Kind) (s : Section) → IsStoredSection Two kind s → IsWritable kind s
stored_is_writable kind s h = record {
  origins = some s.origins h.origins;
  steps = all (IsStoredStep Two kind) (IsWritableStep kind) (step_writable kind) s.steps h.steps.1;
  count = h.closed.0;
  closed = all (IsStoredRow Two kind) (IsWritableRow kind) (row_writable kind) s.closed h.closed.1;
}
  where
    some : (o : Option ℕ) → IsStoredCount Two o → IsSome o
    some None h = absurd h
    some (Some n) h = refl
