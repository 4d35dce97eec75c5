-- What a run does.
--   ReadsNothing words: the words are no command, or one of a view that reads no input
--   IfTold silent left P: what holds of the bytes of an input, where it tells them; and where nothing is read, of none
--   Means c bytes v text: the text shows a view of a table that is the standard table of the presentation that was read, through the limit, and was raised by
--   sections that a check accepts
--   MeansMap c bytes text: the text shows what matrices that were read see of the presentation
--   MeansWhy c bytes text: the text shows for each query of the presentation that was read a proof that its sides are equal, or that there is none
--   IsWritten view: sections are written along the way
--   MayPut view status: something may stand in the output of a view that has ended with this status: its text after Done, a part of it after a failing put; of
--   a checkpoint also what was written before a fault stopped the run or memory ran out
--   Spends c bytes out_old out_new old new: a number rose by at most the number of origins of the weights that a run computes, where its view is counted;
--   it stayed where there is no start; and a checkpoint's sections are written as its weights are done
use Rattle.std.specs.Prelude.{◌≡◌, ℕ, ◌+◌, ◌≤◌, ◌⊎◌, List, [], Option, Some, IfSome}
use Rattle.fpl_log.specs.declared.section.Section.{Section}
use Rattle.fpl_matrices.specs.Matrices.{Assigned}
use Rattle.fpl_model.specs.declared.presentation.Presentation.{Presentation}
use Rattle.fpl_table.specs.Plain.{PlainTable}
use Rattle.fpl_table.specs.Standard.{IsTableOf}
use Rattle.fpl_complete.specs.State.{AreAccepted}
use Rattle.fpl_reply.specs.declared.status.Status.{Status}
use Rattle.fpl_reply.specs.declared.status.Status.TheVariants.{Done, Usage, Refused, BadCheckpoint, Limit, Overflow, NoMemory, ReadFault, WriteFault, Unsupported}
use Rattle.fpl_reasons.specs.Why.{ShowsWhy}
use Rattle.fpl_views.specs.declared.shown.Shown.{Shown}
use Rattle.fpl_views.specs.Views.{Shows}
use Rattle.fpl_run.specs.declared.words.View.{View}
use Rattle.fpl_run.specs.declared.words.Command.{Command}
use Rattle.fpl_run.specs.declared.task.Way.{Way}
use Rattle.fpl_run.specs.declared.task.Way.TheVariants.{Write}
use Rattle.fpl_run.specs.Words.{IsCommand, IsNoCommand}
use Rattle.fpl_run.specs.Task.{way_of, task_for, IsCounted}
use Rattle.fpl_run.specs.Matrices.{HasMatrices, ShowsMap}
use Rattle.fpl_run.specs.Start.{Start, of_text, cost_for}
use Rattle.fpl_run.specs.Read.{IsUnread, Presents, IsStart}
use Rattle.fpl_run.specs.Pace.{IsPaced}

abbrev pub ReadsNothing : List (List ℕ) → Type 0
ReadsNothing words = IsNoCommand words ⊎ ((c : Command) × IsCommand words c × IsUnread c.view)

abbrev pub IfTold : (silent : Type 0) → Option (List ℕ) → (List ℕ → Type 0) → Type 0
IfTold silent left P = IfSome left P × (silent → P [])

pub record Means (c : Command) (bytes : List ℕ) (v : Shown) (text : List ℕ) : Type 0 where
  pub start : Start
  pub read : IsStart c bytes start
  pub table : PlainTable
  pub standard : IsTableOf start.presentation c.limit table
  pub sections : List Section
  pub accepted : AreAccepted start.presentation table sections
  pub shows : Shows v start.presentation table sections text

pub record MeansMap (c : Command) (bytes text : List ℕ) : Type 0 where
  pub presentation : Presentation
  pub read : Presents c bytes (of_text presentation)
  pub matrices : Assigned
  pub given : HasMatrices bytes presentation matrices
  pub shows : ShowsMap presentation matrices c.limit text

pub record MeansWhy (c : Command) (bytes text : List ℕ) : Type 0 where
  pub start : Start
  pub read : IsStart c bytes start
  pub table : PlainTable
  pub standard : IsTableOf start.presentation c.limit table
  pub shows : ShowsWhy start.presentation table text

abbrev pub IsWritten : View → Type 0
IsWritten view = way_of view ≡ Write

abbrev pub MayPut : View → Status → Type 0
MayPut view Done = Unit {0}
MayPut view Usage = ⊥
MayPut view Refused = ⊥
MayPut view BadCheckpoint = IsWritten view
MayPut view Limit = IsWritten view
MayPut view Overflow = IsWritten view
MayPut view NoMemory = IsWritten view
MayPut view ReadFault = ⊥
MayPut view WriteFault = Unit {0}
MayPut view Unsupported = ⊥

pub record Spends (c : Command) (bytes : List ℕ) (out_old out_new : Option (List ℕ)) (old new : ℕ) : Type 0 where
  pub rises : old ≤ new
  pub most : (way : Way) (s : Start) → way_of c.view ≡ way → IsCounted way → IsStart c bytes s → new ≤ old + cost_for (task_for c way) s
  pub stays : ((s : Start) → IsStart c bytes s → ⊥) → new ≡ old
  pub paced : (s : Start) → IsWritten c.view → IsStart c bytes s → IsPaced (task_for c Write) s out_old out_new old new
