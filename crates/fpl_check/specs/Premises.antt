-- What a section must be before its content is tested: its numbers are those of the field, and it counts in the widths of code.
--
--   AreNumbersOf kind s    every factor, scale and coefficient is canonical and fits
--   IsSectionFor T s       a section of the weight after the table's, of such numbers, with fewer than 2^32 closed rows
use Rattle.std.specs.Prelude.{◌≡◌, suc, ◌<◌, ◌^◌, List, length, All}
use Rattle.fpl_numbers.specs.declared.number.Kind.{Kind}
use Rattle.fpl_numbers.specs.Numbers.{IsElement}
use Rattle.fpl_log.specs.declared.terms.Term.{Term}
use Rattle.fpl_log.specs.declared.step.Step.{Step}
use Rattle.fpl_log.specs.declared.step.Step.TheVariants.{Insert, Close}
use Rattle.fpl_log.specs.declared.closed.Coefficient.{Coefficient}
use Rattle.fpl_log.specs.declared.section.Section.{Section}
use Rattle.fpl_table.specs.Plain.{PlainTable}

abbrev pub AreFactorsOf : Kind → List Term → Type 0
AreFactorsOf kind terms = All (λ t. IsElement kind t.factor) terms

abbrev pub HasNumbersOf : Kind → Step → Type 0
HasNumbersOf kind (Insert origin terms scale) = AreFactorsOf kind terms × IsElement kind scale
HasNumbersOf kind (Close of terms) = AreFactorsOf kind terms

abbrev pub AreCoefficientsOf : Kind → List Coefficient → Type 0
AreCoefficientsOf kind row = All (λ c. IsElement kind c.number) row

pub record AreNumbersOf (kind : Kind) (s : Section) : Type 0 where
  pub steps : All (HasNumbersOf kind) s.steps
  pub closed : All (AreCoefficientsOf kind) s.closed

pub record IsSectionFor (T : PlainTable) (s : Section) : Type 0 where
  pub weight : s.weight ≡ suc T.weight
  pub numbers : AreNumbersOf T.kind s
  pub few : length s.closed < 2 ^ 32
