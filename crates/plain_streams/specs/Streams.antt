-- Own streams: the checkpoints that a run writes for a presentation.
--
--   nothing                  nothing is stored
--   plain_walk e p n         the run through n weights of a presentation for which nothing is stored
--   version_number v         the number of a version
--   section_in v T p h       the section of a computed weight in a version: in the second as it is kept, without the steps of dependent origins; in the first
--                            as it was recorded, with these
--   sections_in v p n T      those of the n weights after a table's, or of as many as come before an operation that does not fit
--   stream_of v p sections   the head of a version, and then sections, one after another
--   HasBytes v kind s        the parts of a section, and the length of its payload, are as bytes of the version can hold them
--   IsSmallSection kind s    no step of a section is of a cube; over the fractions the parts of each of its numbers are below 2^63; the length of its payload
--                            in the first version fits its bytes
--   IsStreamOf p bytes       the bytes are a stream of p in either version, through any weight, whole or cut at any byte after its head
--
-- A version has a stream through a weight where each of its sections has bytes. In the second version each has that a run comes to; in the first each that
-- is small (RunsWriteStreams, SmallStreams). So the first version asks something of the numbers of a section, and nothing of those that were only met on
-- the way.
use Rattle.std.specs.Prelude.{ℕ, zero, suc, ◌≡◌, ◌≤◌, ◌<◌, ◌^◌, List, [], ◌∷◌, ◌++◌, length, take, All, true, false, None, Result, Ok, Err}
use Rattle.std.specs.List.{flat_map}
use Rattle.fpl_numbers.specs.declared.number.Num.{Num}
use Rattle.fpl_numbers.specs.declared.number.Kind.{Kind}
use Rattle.fpl_numbers.specs.declared.number.Kind.TheVariants.{Rational, Prime}
use Rattle.fpl_numbers.specs.declared.number.Unfit.{Unfit}
use Rattle.fpl_numbers.specs.Numbers.{IsSmall}
use Rattle.fpl_log.specs.declared.step.Origin.{Origin}
use Rattle.fpl_log.specs.declared.step.Origin.TheVariants.{Relation, Jacobi, Cube, Row}
use Rattle.fpl_log.specs.declared.step.Step.{Step}
use Rattle.fpl_log.specs.declared.step.Step.TheVariants.{Insert, Close}
use Rattle.fpl_log.specs.declared.section.Section.{Section}
use Rattle.plain_elimination.specs.Plain.{Held, rows_of}
use Rattle.fpl_model.specs.declared.presentation.Presentation.{Presentation}
use Rattle.fpl_model.specs.Sound.{IsSound}
use Rattle.fpl_canonical.specs.Canonical.{canonical_of}
use Rattle.fpl_table.specs.Plain.{PlainTable}
use Rattle.fpl_table.specs.Push.{push_of}
use Rattle.fpl_table.specs.Standard.{start_of}
use Rattle.plain_weights.specs.Weight.{close_weight}
use Rattle.plain_weights.specs.Section.{section_of}
use Rattle.plain_sections.specs.Valid.{whole_section}
use Rattle.fpl_bytes.specs.declared.version.Version.{Version}
use Rattle.fpl_bytes.specs.declared.version.Version.TheVariants.{One, Two}
use Rattle.fpl_section_bytes.specs.Spelling.{payload_bytes, section_bytes_of}
use Rattle.fpl_section_bytes.specs.Stored.{IsStoredSection}
use Rattle.fpl_checkpoint.specs.Heads.{head_bytes_of}
use Rattle.fpl_walk.specs.Walk.{Stored, Walked, begun, walk_of}

abbrev pub nothing : Stored
nothing = record { version = 2; bytes = [] }

abbrev pub plain_walk : (entries : ℕ) → Presentation → ℕ → Walked
plain_walk entries p n = walk_of true entries p nothing n (begun p 0 false)

abbrev pub version_number : Version → ℕ
version_number One = 1
version_number Two = 2

abbrev pub section_in : Version → PlainTable → Presentation → Held → Section
section_in One T p h = whole_section T None h
section_in Two T p h = section_of T p h

abbrev pub sections_on : (Held → Section) → (Held → List Section) → Result Held Unfit → List Section
sections_on section further (Ok h) = section h ∷ further h
sections_on section further (Err u) = []

abbrev pub sections_in : Version → Presentation → ℕ → PlainTable → List Section
sections_in version p zero T = []
sections_in version p (suc n) T = sections_on (section_in version T p) (λ h. sections_in version p n (push_of T (rows_of h.pivots))) (close_weight T p)

abbrev pub stream_of : Version → Presentation → List Section → List ℕ
stream_of version p sections = head_bytes_of (version_number version) p ++ flat_map (section_bytes_of version p.field) sections

pub record HasBytes (version : Version) (kind : Kind) (s : Section) : Type 0 where
  pub parts : IsStoredSection version kind s
  pub payload : length (payload_bytes version kind s) < 2 ^ 64

abbrev pub IsSmallIn : Kind → Num → Type 0
IsSmallIn Rational a = IsSmall a
IsSmallIn (Prime q) a = Unit {0}

abbrev pub IsNoCube : Origin → Type 0
IsNoCube (Relation r) = Unit {0}
IsNoCube (Jacobi i j k) = Unit {0}
IsNoCube (Cube i) = ⊥
IsNoCube (Row n) = Unit {0}

abbrev pub IsSmallStep : Kind → Step → Type 0
IsSmallStep kind (Insert origin terms scale) = IsNoCube origin × IsSmallIn kind scale × All (λ t. IsSmallIn kind t.factor) terms
IsSmallStep kind (Close of terms) = All (λ t. IsSmallIn kind t.factor) terms

pub record IsSmallSection (kind : Kind) (s : Section) : Type 0 where
  pub steps : All (IsSmallStep kind) s.steps
  pub closed : All (λ row. All (λ c. IsSmallIn kind c.number) row) s.closed
  pub payload : length (payload_bytes One kind s) < 2 ^ 64

pub record IsStreamOf (p : Presentation) (bytes : List ℕ) : Type 0 where
  pub sound : IsSound p
  pub text : length (canonical_of p) < 2 ^ 32
  pub version : Version
  pub through : ℕ
  pub sections : All (HasBytes version p.field) (sections_in version p through (start_of p))
  pub end : ℕ
  pub head : length (head_bytes_of (version_number version) p) ≤ end
  pub front : bytes ≡ take end (stream_of version p (sections_in version p through (start_of p)))
