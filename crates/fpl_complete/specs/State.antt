-- The state of a completion, and what raising it answers.
--
--   PlainState                  a presentation, a table and the sections of its weights, as contracts see a state
--   section_at sections w       the section of weight w, where there is one
--   AreOfWeights d sections     one section for each weight from 1 to d, in their order
--   AreAccepted p T sections    T is raised from weight 0 by the sections, in their order: each is accepted over the table of the weights below its own, and
--                               its closed rows are pushed
--   IsStorable kind s           the parts of a section are as bytes can hold them; steps with scale 0 may be among them
--   IsState p T n sections      T is raised for p, n is how many symbols there are of the weights from 1 to its own, and each of these has an accepted
--                               section that has bytes
--   PassesAfter p from d e w c  w is the least weight above `from` and up to d at which the symbols of weights 1 to w number more than e, and c is their number
--   unfit_of op a b             an operation with its operands
--   sum_after count from n      the sum of count v over the n weights v that follow `from`
--   BoundsOrigins p from d count   each weight v of p above `from` and up to d has at most count v origins
--   weighed_as rows section     the closed rows of a weight, and its section
use Rattle.std.specs.Prelude.{ℕ, zero, suc, ◌≡◌, ◌≤◌, ◌<◌, ◌+◌, ◌-◌, List, [], ◌∷◌, ◌++◌, length, All, None, slice_index_or}
use Rattle.fpl_numbers.specs.declared.number.Num.{Num}
use Rattle.fpl_numbers.specs.declared.number.Op.{Op}
use Rattle.fpl_numbers.specs.declared.number.Unfit.{Unfit}
use Rattle.fpl_numbers.specs.declared.number.Kind.{Kind}
use Rattle.fpl_numbers.specs.Numbers.{IsElement}
use Rattle.fpl_log.specs.declared.step.Step.{Step}
use Rattle.fpl_log.specs.declared.step.Step.TheVariants.{Insert, Close}
use Rattle.fpl_log.specs.declared.section.Section.{Section}
use Rattle.fpl_section_bytes.specs.Stored.{IsWritableOrigin, AreWritableTerms, IsWritableRow, IsWritable}
use Rattle.fpl_model.specs.declared.presentation.Presentation.{Presentation}
use Rattle.fpl_table.specs.Plain.{PlainTable}
use Rattle.fpl_table.specs.Push.{push_of}
use Rattle.fpl_table.specs.Standard.{start_of, IsTableOf, count_through}
use Rattle.fpl_rewrite.specs.Origins.{origins_of}
use Rattle.plain_tables.specs.Holds.{Holds}
use Rattle.plain_tables.specs.Raised.{IsRaised}
use Rattle.fpl_check.specs.Premises.{IsSectionFor}
use Rattle.fpl_check.specs.Check.{Accepts}

pub record PlainState : Type 0 where
  pub presentation : Presentation
  pub table : PlainTable
  pub sections : List Section

abbrev pub no_section : Section
no_section = record { weight = 0; origins = None; steps = []; closed = [] }

abbrev pub section_at : List Section → ℕ → Section
section_at sections w = slice_index_or sections (w - 1) no_section

pub record AreOfWeights (d : ℕ) (sections : List Section) : Type 0 where
  pub count : length sections ≡ d
  pub weights : (w : ℕ) → 1 ≤ w → w ≤ d → (section_at sections w).weight ≡ w

pub data AreAccepted (p : Presentation) : PlainTable → List Section → Type 0 where
  at_start : AreAccepted p (start_of p) []
  one_more : (T : PlainTable) (sections : List Section) (s : Section) (rows : List (List Num)) → AreAccepted p T sections → Holds p T →
      IsSectionFor T s → Accepts T p s rows →
      AreAccepted p (push_of T rows) (sections ++ s ∷ [])

abbrev pub IsStorableStep : Kind → Step → Type 0
IsStorableStep kind (Insert origin terms scale) = IsWritableOrigin origin × IsElement kind scale × AreWritableTerms kind terms
IsStorableStep kind (Close of terms) = AreWritableTerms kind terms

pub record IsStorable (kind : Kind) (s : Section) : Type 0 where
  pub steps : All (IsStorableStep kind) s.steps
  pub closed : All (IsWritableRow kind) s.closed

pub record IsState (p : Presentation) (T : PlainTable) (n : ℕ) (sections : List Section) : Type 0 where
  pub holds : Holds p T
  pub raised : IsRaised p T
  pub number : count_through T T.weight ≡ n
  pub few : n ≤ 2000000
  pub sections_are : AreOfWeights T.weight sections
  pub accepted : AreAccepted p T sections
  pub writable : All (IsWritable p.field) sections

pub record PassesAfter (p : Presentation) (from d entries w count : ℕ) : Type 0 where
  pub above : from < w
  pub to_end : w ≤ d
  pub table : PlainTable
  pub below : IsTableOf p (w - 1) table
  pub number : count_through table w ≡ count
  pub passes : entries < count
  pub least : (v : ℕ) → from < v → v < w → count_through table v ≤ entries

abbrev pub unfit_of : Op → Num → Num → Unfit
unfit_of op a b = record { op = op; a = a; b = b }

abbrev pub sum_after : (ℕ → ℕ) → ℕ → ℕ → ℕ
sum_after count from zero = 0
sum_after count from (suc n) = sum_after count from n + count (suc (from + n))

abbrev pub BoundsOrigins : Presentation → ℕ → ℕ → (ℕ → ℕ) → Type 0
BoundsOrigins p from d count = (v : ℕ) → from < v → v ≤ d → (T : PlainTable) → IsRaised p T → suc T.weight ≡ v → length (origins_of T p) ≤ count v

-- the closed rows of a weight, and its section
pub record PlainWeighed : Type 0 where
  pub rows : List (List Num)
  pub section : Section

abbrev pub weighed_as : List (List Num) → Section → PlainWeighed
weighed_as rows section = record { rows = rows; section = section }
