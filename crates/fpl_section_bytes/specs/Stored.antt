-- Which sections have bytes.
--
--   IsStoredOrigin, IsStoredTerm, IsStoredStep, IsStoredCoefficient   the parts of a section that have bytes
--   IsStoredSection version kind s   numbers are canonical, fit, and are within the version's limit; counts and numbers of things fit
--                                    their bytes; no origin is a row of another list. The first version has no number of origins and
--                                    no cube; the second has the number of origins, and no scale of 0
--   IsWritable kind s                what section_bytes needs of a section beside what its types say
use Rattle.std.specs.Prelude.{◌≡◌, ℕ, ◌<◌, ◌^◌, List, length, Option, Some, None, false, IsSome, All}
use Rattle.std.specs.List.{AllByRecursion}
use Rattle.fpl_numbers.specs.declared.number.Num.{Num}
use Rattle.fpl_numbers.specs.declared.number.Kind.{Kind}
use Rattle.fpl_numbers.specs.Numbers.{IsElement, is_nought}
use Rattle.fpl_log.specs.declared.terms.Term.{Term}
use Rattle.fpl_log.specs.declared.step.Origin.{Origin}
use Rattle.fpl_log.specs.declared.step.Origin.TheVariants.{Relation, Jacobi, Cube, Row}
use Rattle.fpl_log.specs.declared.step.Step.{Step}
use Rattle.fpl_log.specs.declared.step.Step.TheVariants.{Insert, Close}
use Rattle.fpl_log.specs.declared.closed.Coefficient.{Coefficient}
use Rattle.fpl_log.specs.declared.section.Section.{Section}
use Rattle.fpl_bytes.specs.declared.version.Version.{Version}
use Rattle.fpl_bytes.specs.declared.version.Version.TheVariants.{One, Two}
use Rattle.fpl_bytes.specs.Numbers.{IsStored}

abbrev pub IsStoredOrigin : Version → Origin → Type 0
IsStoredOrigin version (Relation r) = r < 2 ^ 32
IsStoredOrigin version (Jacobi i j k) = (i < 2 ^ 32) × (j < 2 ^ 32) × (k < 2 ^ 32)
IsStoredOrigin One (Cube i) = ⊥
IsStoredOrigin Two (Cube i) = i < 2 ^ 32
IsStoredOrigin version (Row n) = ⊥

abbrev pub IsStoredScale : Version → Kind → Num → Type 0
IsStoredScale One kind k = IsStored One kind k
IsStoredScale Two kind k = IsStored Two kind k × (is_nought k ≡ false)

abbrev pub IsStoredCount : Version → Option ℕ → Type 0
IsStoredCount One None = Unit {0}
IsStoredCount One (Some n) = ⊥
IsStoredCount Two None = ⊥
IsStoredCount Two (Some n) = n < 2 ^ 64

module _ (version : Version) (kind : Kind) where
  pub record IsStoredTerm (t : Term) : Type 0 where
    pub step : t.step < 2 ^ 64
    pub factor : IsStored version kind t.factor

  abbrev pub AreStoredTerms : List Term → Type 0
  AreStoredTerms ts = (length ts < 2 ^ 32) × AllByRecursion IsStoredTerm ts

  abbrev pub IsStoredStep : Step → Type 0
  IsStoredStep (Insert origin terms scale) = IsStoredOrigin version origin × IsStoredScale version kind scale × AreStoredTerms terms
  IsStoredStep (Close of terms) = (of < 2 ^ 64) × AreStoredTerms terms

  pub record IsStoredCoefficient (c : Coefficient) : Type 0 where
    pub symbol : c.symbol < 2 ^ 32
    pub number : IsStored version kind c.number

  abbrev pub IsStoredRow : List Coefficient → Type 0
  IsStoredRow cs = (length cs < 2 ^ 32) × AllByRecursion IsStoredCoefficient cs

  pub record IsStoredSection (s : Section) : Type 0 where
    pub origins : IsStoredCount version s.origins
    pub steps : (length s.steps < 2 ^ 64) × AllByRecursion IsStoredStep s.steps
    pub closed : (length s.closed < 2 ^ 32) × AllByRecursion IsStoredRow s.closed

abbrev pub IsWritableOrigin : Origin → Type 0
IsWritableOrigin (Row n) = ⊥
IsWritableOrigin _ = Unit {0}

module _ (kind : Kind) where
  abbrev pub AreWritableTerms : List Term → Type 0
  AreWritableTerms ts = (length ts < 2 ^ 32) × All (λ t. IsElement kind t.factor) ts

  abbrev pub IsWritableStep : Step → Type 0
  IsWritableStep (Insert origin terms scale) = IsWritableOrigin origin × IsElement kind scale × (is_nought scale ≡ false) × AreWritableTerms terms
  IsWritableStep (Close of terms) = AreWritableTerms terms

  abbrev pub IsWritableRow : List Coefficient → Type 0
  IsWritableRow cs = (length cs < 2 ^ 32) × All (λ c. IsElement kind c.number) cs

  pub record IsWritable (s : Section) : Type 0 where
    pub origins : IsSome s.origins
    pub steps : All IsWritableStep s.steps
    pub count : length s.closed < 2 ^ 32
    pub closed : All IsWritableRow s.closed
