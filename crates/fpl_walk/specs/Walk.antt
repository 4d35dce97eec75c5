-- A run through the weights of a presentation, over stored sections: each weight in order is adopted, where its section stands whole in the bytes and
-- so did those before it, or computed.
--
--   Stored                 stored sections: the version of their format, 1 or 2, and the bytes that hold them
--   Stage                  the table so far and its sections; the place after the last section that was adopted; whether the next may be stored
--   begun p place stored   the stage at weight 0, where the first section begins at a place
--   Fault                  what fails at a weight: too many symbols; bytes that are no section; a section that a check refuses; an operation that does
--                          not fit
--   Stop                   why a run goes no further: a fault; or nothing more is stored, where nothing is to be computed
--   next_weight stage      the weight after those of its table
--   raised stage rows ..   the stage with one weight more, from its closed rows
--   adopted, formed        the stage after a section, from what its check gives; from its content, where that is a section
--   computed, computed_as  the stage after a weight that is computed, where it is to be; from what computing it gives
--   framed, weighed        the stage after a weight, from the frame of its section; from what is stored
--   step_of ..             one weight: first whether the symbols through it stay within the entries; then its stored section: frame, form, check; or its
--                          computing, where the run computes
--   Walked                 a stage, and why the run stopped there, if it did
--   walk_of .. n stage     n weights, or as many as come before a stop; walk_on goes on after a weight, unless it stopped
--   is_whole               a section stands whole there, be it of another weight
--   computing_cost, step_cost   how many origins a weight has, where it is computed
--   cost_of .. n stage     those of n weights, or of as many as come before a stop, and the one that it stops at; cost_on goes on like walk_on
use Rattle.std.specs.Prelude.{ℕ, zero, suc, List, [], ◌∷◌, ◌++◌, length, ◌+◌, Bool, true, false, ◌&&◌, nat_lt, slice_range, Option, Some, None, Result, Ok, Err, if◌then◌else◌}
use Rattle.fpl_numbers.specs.declared.number.Num.{Num}
use Rattle.fpl_numbers.specs.declared.number.Unfit.{Unfit}
use Rattle.fpl_log.specs.declared.section.Section.{Section}
use Rattle.plain_elimination.specs.Plain.{Held, rows_of}
use Rattle.fpl_model.specs.declared.presentation.Presentation.{Presentation}
use Rattle.fpl_table.specs.Plain.{PlainTable}
use Rattle.fpl_table.specs.Push.{push_of}
use Rattle.fpl_table.specs.Standard.{start_of, count_through}
use Rattle.fpl_rewrite.specs.Origins.{origins_of}
use Rattle.plain_weights.specs.Weight.{close_weight}
use Rattle.plain_weights.specs.Section.{slimmed, section_of}
use Rattle.fpl_check.specs.declared.fault.Spot.{Spot}
use Rattle.fpl_check.specs.declared.fault.Why.{Why}
use Rattle.fpl_check.specs.Refusal.{Refusal, bad, unfit}
use Rattle.fpl_check.specs.Check.{check_of}
use Rattle.fpl_bytes.specs.declared.fault.BadBytes.{BadBytes}
use Rattle.fpl_section_bytes.specs.declared.frame.Frame.{Frame}
use Rattle.fpl_section_bytes.specs.declared.frame.Frame.TheVariants.{Whole, Tail}
use Rattle.fpl_bytes.specs.Numbers.{version_of}
use Rattle.fpl_section_bytes.specs.Frames.{frame_of}
use Rattle.fpl_section_bytes.specs.Reading.{payload_at}

pub record Stored : Type 0 where
  pub version : ℕ
  pub bytes : List ℕ

pub record Stage : Type 0 where
  pub table : PlainTable
  pub sections : List Section
  pub place : ℕ
  pub stored : Bool

abbrev pub begun : Presentation → ℕ → Bool → Stage
begun p place stored = record { table = start_of p; sections = []; place = place; stored = stored }

pub data Fault : Type 0 where
  too_many : (weight count : ℕ) → Fault
  bad_bytes : BadBytes → Fault
  bad_section : (weight : ℕ) (spot : Spot) (why : Why) → Fault
  overflow : (weight : ℕ) (u : Unfit) → Fault

pub data Stop : Type 0 where
  ended : Stop
  failed : Fault → Stop

abbrev pub next_weight : Stage → ℕ
next_weight stage = suc stage.table.weight

abbrev pub raised : Stage → List (List Num) → Section → ℕ → Bool → Stage
raised stage rows section place stored = record {
  table = push_of stage.table rows;
  sections = stage.sections ++ section ∷ [];
  place = place;
  stored = stored;
}

-- a stored section that ends at a place
abbrev pub adopted : Stage → Presentation → Section → ℕ → Result (List (List Num)) Refusal → Result Stage Stop
adopted stage p s to (Ok rows) = Ok (raised stage rows (slimmed stage.table p s) to true)
adopted stage p s to (Err (bad spot why)) = Err (failed (bad_section (next_weight stage) spot why))
adopted stage p s to (Err (unfit u)) = Err (failed (overflow (next_weight stage) u))

abbrev pub formed : Stage → Presentation → ℕ → Result Section BadBytes → Result Stage Stop
formed stage p to (Ok s) = adopted stage p s to (check_of stage.table p s)
formed stage p to (Err b) = Err (failed (bad_bytes b))

abbrev pub computed_as : Stage → Presentation → Result Held Unfit → Result Stage Stop
computed_as stage p (Ok h) = Ok (raised stage (rows_of h.pivots) (section_of stage.table p h) stage.place false)
computed_as stage p (Err u) = Err (failed (overflow (next_weight stage) u))

abbrev pub computed : (computes : Bool) → Presentation → Stage → Result Stage Stop
computed true p stage = computed_as stage p (close_weight stage.table p)
computed false p stage = Err ended

abbrev pub framed : (computes : Bool) → Presentation → Stored → Stage → Result Frame BadBytes → Result Stage Stop
framed computes p at stage (Ok (Whole from to)) = formed stage p to
    (payload_at (version_of at.version) p.field (next_weight stage) to (slice_range at.bytes from to))
framed computes p at stage (Ok Tail) = computed computes p stage
framed computes p at stage (Err b) = Err (failed (bad_bytes b))

abbrev pub weighed : (computes : Bool) → Presentation → Stored → Stage → Result Stage Stop
weighed computes p at stage = if stage.stored then framed computes p at stage (frame_of at.bytes stage.place (next_weight stage)) else computed computes p stage

abbrev pub step_of : (computes : Bool) → (entries : ℕ) → Presentation → Stored → Stage → Result Stage Stop
step_of computes entries p at stage =
    let count = count_through stage.table (next_weight stage) in
    if nat_lt entries count then Err (failed (too_many (next_weight stage) count)) else weighed computes p at stage

pub record Walked : Type 0 where
  pub stage : Stage
  pub stop : Option Stop

abbrev pub stopped : Stage → Option Stop → Walked
stopped stage stop = record { stage = stage; stop = stop }

abbrev pub walk_on : (Stage → Walked) → Stage → Result Stage Stop → Walked
walk_on further stage (Ok next) = further next
walk_on further stage (Err stop) = stopped stage (Some stop)

abbrev pub walk_of : (computes : Bool) → (entries : ℕ) → Presentation → Stored → ℕ → Stage → Walked
walk_of computes entries p at zero stage = stopped stage None
walk_of computes entries p at (suc n) stage = walk_on (walk_of computes entries p at n) stage (step_of computes entries p at stage)

abbrev pub is_whole : Result Frame BadBytes → Bool
is_whole (Ok (Whole from to)) = true
is_whole (Ok Tail) = false
is_whole (Err b) = true

abbrev pub computing_cost : (computes : Bool) → Presentation → Stage → ℕ
computing_cost computes p stage = if computes then length (origins_of stage.table p) else 0

abbrev pub step_cost : (computes : Bool) → (entries : ℕ) → Presentation → Stored → Stage → ℕ
step_cost computes entries p at stage =
    if nat_lt entries (count_through stage.table (next_weight stage)) then 0
    else if stage.stored && is_whole (frame_of at.bytes stage.place (next_weight stage)) then 0 else computing_cost computes p stage

abbrev pub cost_on : (Stage → ℕ) → Result Stage Stop → ℕ
cost_on further (Ok next) = further next
cost_on further (Err stop) = 0

abbrev pub cost_of : (computes : Bool) → (entries : ℕ) → Presentation → Stored → ℕ → Stage → ℕ
cost_of computes entries p at zero stage = 0
cost_of computes entries p at (suc n) stage = step_cost computes entries p at stage + cost_on (cost_of computes entries p at n)
    (step_of computes entries p at stage)
