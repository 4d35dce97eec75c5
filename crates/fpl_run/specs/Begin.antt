-- What a run begins with, and what a walk leaves, as the code has it.
--   start_in begin bytes: what a run begins with whose sections are stored in these bytes
--   start_from run bytes: what this run has begun with
--   HasBegun run: it is at weight 0
--   Adds added r old new: the step r has added a weight; or none, since nothing more is stored, and the stage is as before
--   Fails r reply: there was no memory; or the step r has given a fault, and the reply is that
--   HasEnded stage walked: the walk came to the limit, or to the end of what is stored, with this stage
--   HasFailed stage walked reply: there was no memory; or a fault stopped the walk at this stage, and the reply is that
--   Stops t s reply: what comes in place of a text: there was no memory; or a fault, before anything was written
use Rattle.std.specs.Prelude.{ℕ, ◌≡◌, ◌⊎◌, List, [], Bool, true, false, None, Some, Result, Ok, Err}
use Rattle.fpl_walk.specs.Walk.{Stage, Fault, Stop, ended, failed, Walked, begun, stopped as ends}
use Rattle.fpl_walk.specs.Stops.{PlainRun, stored_in}
use Rattle.fpl_reply.specs.declared.view_fault.ViewFault.{ViewFault}
use Rattle.fpl_reply.specs.Reply.{Reply, stopped, failed_in_view, no_memory}
use Rattle.fpl_run.specs.declared.start.Begin.{Begin}
use Rattle.fpl_run.specs.declared.task.Task.{Task}
use Rattle.fpl_run.specs.Matrices.{none_given}
use Rattle.fpl_run.specs.Start.{Start}
use Rattle.fpl_run.specs.Answer.{AnswersTask}

abbrev pub start_in : Begin → List ℕ → Start
start_in b bytes = record { presentation = b.presentation; stored = record { version = b.version; bytes = bytes }; place = b.place; has = b.stored; matrices = none_given }

abbrev pub start_from : PlainRun → List ℕ → Start
start_from run bytes = record { presentation = run.presentation; stored = stored_in run bytes; place = run.stage.place; has = run.stage.stored; matrices = none_given }

abbrev pub HasBegun : PlainRun → Type 0
HasBegun run = run.stage ≡ begun run.presentation run.stage.place run.stage.stored

abbrev pub Adds : Bool → Result Stage Stop → (old new : Stage) → Type 0
Adds true r old new = r ≡ Ok new
Adds false r old new = (r ≡ Err ended) × (new ≡ old)

abbrev pub Fails : Result Stage Stop → Reply → Type 0
Fails r reply = (reply ≡ no_memory) ⊎ ((fault : Fault) × (r ≡ Err (failed fault)) × (reply ≡ stopped [] fault))

abbrev pub HasEnded : Stage → Walked → Type 0
HasEnded stage walked = (walked ≡ ends stage None) ⊎ (walked ≡ ends stage (Some ended))

abbrev pub HasFailed : Stage → Walked → Reply → Type 0
HasFailed stage walked reply = (reply ≡ no_memory) ⊎ ((fault : Fault) × (walked ≡ ends stage (Some (failed fault))) × (reply ≡ stopped [] fault))

pub data Stops (t : Task) (s : Start) : Reply → Type 0 where
  out_of_memory : Stops t s no_memory
  at_fault : (fault : Fault) → AnswersTask t s (stopped [] fault) → Stops t s (stopped [] fault)
  in_view : (fault : ViewFault) → AnswersTask t s (failed_in_view fault) → Stops t s (failed_in_view fault)
