-- What a walk through the weights of a presentation gives, in the words of the algebra.
--
--   walk_over c e p at n place stored   the walk of p through n weights, from the one through weight 0, over what is stored from a place on
--   IsStandardWalk p e n w              its table is the standard table of p through the weight that it came to, whose symbols number at most e,
--                                      with a row for each generator and each regular pair; it has one section a weight, and each is accepted over
--                                      the table of the weights below; and it came to n, or stopped at the weight before which it stands
--   HasCome p e n w T                   1 <= w <= n; T is the standard table of p through the weights below w; the symbols of weights 1 to v number at most
--                                       e, for each v up to w
--   StandsWhole p at place w s          at a place of the stored bytes a section of weight w stands whole, and s is its content
--   IsBadThere p at place w b           at that place the frame of a section of weight w is bad, or the content of one that stands whole is
--   NothingStands at stage              no section is stored after those that the walk has adopted
--   StopMeans c e n p at stage stop     what a stop after a stage means
use Rattle.std.specs.Prelude.{ℕ, ◌≡◌, ◌≤◌, ◌-◌, ◌⊎◌, Bool, true, false, None, Ok, Err, slice_range}
use Rattle.fpl_log.specs.declared.section.Section.{Section}
use Rattle.fpl_model.specs.declared.presentation.Presentation.{Presentation}
use Rattle.fpl_table.specs.Plain.{PlainTable}
use Rattle.fpl_table.specs.Standard.{IsTableOf, PassesAt, count_through}
use Rattle.fpl_table.specs.Shape.{HasShape}
use Rattle.plain_tables.specs.Raised.{IsRaised}
use Rattle.plain_weights.specs.Section.{OverflowsAt}
use Rattle.fpl_check.specs.Refusal.{bad, unfit}
use Rattle.fpl_check.specs.Check.{check_of}
use Rattle.fpl_complete.specs.State.{AreAccepted, AreOfWeights}
use Rattle.fpl_bytes.specs.declared.fault.BadBytes.{BadBytes}
use Rattle.fpl_bytes.specs.Numbers.{version_of}
use Rattle.fpl_section_bytes.specs.declared.frame.Frame.TheVariants.{Whole, Tail}
use Rattle.fpl_section_bytes.specs.Frames.{frame_of}
use Rattle.fpl_section_bytes.specs.Reading.{payload_at}
use Rattle.fpl_walk.specs.Walk.{Stored, Stage, Fault, Stop, ended, failed, too_many, bad_bytes, bad_section, overflow, Walked, begun, next_weight, walk_of}

abbrev pub walk_over : (computes : Bool) → (entries : ℕ) → Presentation → Stored → ℕ → (place : ℕ) → (stored : Bool) → Walked
walk_over computes entries p at limit place stored = walk_of computes entries p at limit (begun p place stored)

pub record IsStandardWalk (p : Presentation) (entries limit : ℕ) (w : Walked) : Type 0 where
  pub table : IsTableOf p w.stage.table.weight w.stage.table
  pub raised : IsRaised p w.stage.table
  pub shape : HasShape w.stage.table
  pub within : (v : ℕ) → v ≤ w.stage.table.weight → count_through w.stage.table v ≤ entries
  pub sections : AreOfWeights w.stage.table.weight w.stage.sections
  pub accepted : AreAccepted p w.stage.table w.stage.sections
  pub reached : w.stage.table.weight ≤ limit
  pub whole : w.stop ≡ None → w.stage.table.weight ≡ limit

pub record HasCome (p : Presentation) (entries limit w : ℕ) (T : PlainTable) : Type 0 where
  pub from_one : 1 ≤ w
  pub to_end : w ≤ limit
  pub table : IsTableOf p (w - 1) T
  pub raised : IsRaised p T
  pub within : (v : ℕ) → v ≤ w → count_through T v ≤ entries

pub record StandsWhole (p : Presentation) (at : Stored) (place w : ℕ) (s : Section) : Type 0 where
  pub from : ℕ
  pub to : ℕ
  pub frame : frame_of at.bytes place w ≡ Ok (Whole from to)
  pub content : payload_at (version_of at.version) p.field w to (slice_range at.bytes from to) ≡ Ok s

pub data IsBadThere (p : Presentation) (at : Stored) (place w : ℕ) (b : BadBytes) : Type 0 where
  bad_frame : frame_of at.bytes place w ≡ Err b → IsBadThere p at place w b
  bad_content : (from to : ℕ) → frame_of at.bytes place w ≡ Ok (Whole from to) →
      payload_at (version_of at.version) p.field w to (slice_range at.bytes from to) ≡ Err b → IsBadThere p at place w b

abbrev pub NothingStands : Stored → Stage → Type 0
NothingStands at stage = (stage.stored ≡ false) ⊎ (frame_of at.bytes stage.place (next_weight stage) ≡ Ok Tail)

module _ (computes : Bool) (entries limit : ℕ) (p : Presentation) (at : Stored) (stage : Stage) where
  abbrev pub FaultMeans : Fault → Type 0
  FaultMeans (too_many w count) = (w ≡ next_weight stage) × PassesAt p limit entries w count
  FaultMeans (bad_bytes b) = HasCome p entries limit (next_weight stage) stage.table × (stage.stored ≡ true) × IsBadThere p at stage.place (next_weight stage) b
  FaultMeans (bad_section w spot why) =
      (w ≡ next_weight stage) × HasCome p entries limit w stage.table × (stage.stored ≡ true) × (s : Section) × StandsWhole p at stage.place w s ×
      (check_of stage.table p s ≡ Err (bad spot why))
  FaultMeans (overflow w u) =
      (w ≡ next_weight stage) × HasCome p entries limit w stage.table ×
      (((computes ≡ true) × NothingStands at stage × OverflowsAt p w u) ⊎
      ((stage.stored ≡ true) × (s : Section) × StandsWhole p at stage.place w s × (check_of stage.table p s ≡ Err (unfit u))))

  abbrev pub StopMeans : Stop → Type 0
  StopMeans ended = (computes ≡ false) × NothingStands at stage × HasCome p entries limit (next_weight stage) stage.table
  StopMeans (failed fault) = FaultMeans fault
