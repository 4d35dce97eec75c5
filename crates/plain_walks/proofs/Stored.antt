-- A section that is read from stored bytes is one of the weight, in numbers of the field.
use Rattle.std.proofs.Common.{◌≡◌, ℕ, suc, ◌-◌, List, All, sym, subst, drop}
use Rattle.std.specs.Prelude.{slice_range}
use Rattle.std.specs.List.{AllByRecursion}
use Rattle.std.proofs.lemmas.List.Elements.{All-from_recursion}
use Rattle.fpl_numbers.specs.declared.number.Num.{Num}
use Rattle.fpl_numbers.specs.declared.number.Kind.{Kind}
use Rattle.fpl_numbers.specs.Numbers.{IsElement}
use Rattle.fpl_log.specs.declared.terms.Term.{Term}
use Rattle.fpl_log.specs.declared.step.Step.{Step}
use Rattle.fpl_log.specs.declared.step.Step.TheVariants.{Insert, Close}
use Rattle.fpl_log.specs.declared.closed.Coefficient.{Coefficient}
use Rattle.fpl_log.specs.declared.section.Section.{Section}
use Rattle.fpl_model.specs.declared.presentation.Presentation.{Presentation}
use Rattle.fpl_table.specs.Plain.{PlainTable}
use Rattle.fpl_check.specs.Premises.{AreFactorsOf, HasNumbersOf, AreCoefficientsOf, AreNumbersOf, IsSectionFor}
use Rattle.fpl_bytes.specs.declared.version.Version.{Version}
use Rattle.fpl_bytes.specs.declared.version.Version.TheVariants.{One, Two}
use Rattle.fpl_bytes.specs.Codes.{IsBytes}
use Rattle.fpl_bytes.specs.Numbers.{version_of}
use Rattle.fpl_bytes.proofs.Steps.{IsBytes-take, IsBytes-drop}
use Rattle.fpl_section_bytes.specs.Stored.{IsStoredScale, IsStoredTerm, AreStoredTerms, IsStoredStep, IsStoredCoefficient, IsStoredRow, IsStoredSection}
use Rattle.fpl_section_bytes.proofs.Bodies.{payload_takes}
use Rattle.fpl_walk.specs.Walk.{Stored}
use Rattle.plain_walks.specs.Walks.{StandsWhole}

all_are : {X : Type 0} (P Q : X → Type 0) → ((x : X) → P x → Q x) → (xs : List X) → AllByRecursion P xs → All Q xs
all_are P Q f xs h i d l = f _ (All-from_recursion P xs h i d l)

module _ (version : Version) (kind : Kind) where
  terms_are : (terms : List Term) → AreStoredTerms version kind terms → AreFactorsOf kind terms
  terms_are terms h = all_are (IsStoredTerm version kind) (λ t. IsElement kind t.factor) (λ t s. s.factor.element) terms h.1

  scale_is : (v : Version) (scale : Num) → IsStoredScale v kind scale → IsElement kind scale
  scale_is One scale h = h.element
  scale_is Two scale h = h.0.element

  step_is : (s : Step) → IsStoredStep version kind s → HasNumbersOf kind s
  step_is (Insert origin terms scale) h = (terms_are terms h.2, scale_is version scale h.1)
  step_is (Close of terms) h = terms_are terms h.1

  row_is : (row : List Coefficient) → IsStoredRow version kind row → AreCoefficientsOf kind row
  row_is row h = all_are (IsStoredCoefficient version kind) (λ c. IsElement kind c.number) (λ c s. s.number.element) row h.1

  pub section_for : (T : PlainTable) (s : Section) → T.kind ≡ kind → s.weight ≡ suc T.weight → IsStoredSection version kind s → IsSectionFor T s
  section_for T s same weight h = record {
    weight = weight;
    numbers = subst (λ k. AreNumbersOf k s) (sym same) (record {
      steps = all_are (IsStoredStep version kind) (HasNumbersOf kind) step_is s.steps h.steps.1;
      closed = all_are (IsStoredRow version kind) (AreCoefficientsOf kind) row_is s.closed h.closed.1;
    });
    few = h.closed.0;
  }

pub stands_for : (p : Presentation) (at : Stored) (place : ℕ) (T : PlainTable) (s : Section) → IsBytes at.bytes → T.kind ≡ p.field →
    StandsWhole p at place (suc T.weight) s → IsSectionFor T s
stands_for p at place T s bytes same h =
    let range : IsBytes (slice_range at.bytes h.from h.to) = IsBytes-take (h.to - h.from) (drop h.from at.bytes) (IsBytes-drop h.from at.bytes bytes) in
    let t = payload_takes (version_of at.version) p.field (suc T.weight) h.to (slice_range at.bytes h.from h.to) s range h.content in
    section_for (version_of at.version) p.field T s same t.2 t.1
