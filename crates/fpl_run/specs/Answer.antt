-- The reply to words and the bytes of an input. At each step exactly one of the cases holds.
--   GivesProofs p T r: a text of proofs; no fault is its own
--   Gives way s t stage r: for a task t the text of a view over the last stage of its walk, or a fault of its own: the text of the table; the checkpoint;
--   how many sections passed a check, and how many bytes stand after them; the ranks by the matrices; or any text of proofs
--   written_before way p sections: what a view has written when a fault stops its walk: a checkpoint the head and the sections of
--     the weights below, others nothing
--   AnswersTask t s: a fault stops the walk at a weight; or it comes to its end, and the view has a fault of its own; or a text
--   AnswersStart c s: that of the view's task
--   AnswersCommand c bytes: the bytes are nothing for the command; or there is a start
--   Answers words bytes: the words spell no command; or one
--   IsFront t s text: of a checkpoint the head and the sections of the weights from 1 to some weight, as the walk has them
--   FrontsStart, FrontsCommand, Fronts: the same, told by a command, its input, and the words
use Rattle.std.specs.Prelude.{ℕ, ◌≡◌, ◌-◌, List, [], length, take, Some, Result, Ok, Err}
use Rattle.fpl_log.specs.declared.section.Section.{Section}
use Rattle.fpl_model.specs.declared.presentation.Presentation.{Presentation}
use Rattle.fpl_walk.specs.Walk.{Stage, Fault, failed}
use Rattle.fpl_reply.specs.declared.view_fault.ViewFault.{ViewFault}
use Rattle.fpl_reply.specs.Reply.{Reply, done, usage, stopped, failed_in_view}
use Rattle.fpl_table.specs.Plain.{PlainTable}
use Rattle.fpl_reasons.specs.Why.{IsWhyText}
use Rattle.fpl_views.specs.Views.{text_of_view}
use Rattle.fpl_run.specs.declared.words.Command.{Command}
use Rattle.fpl_run.specs.declared.task.Way.{Way}
use Rattle.fpl_run.specs.declared.task.Way.TheVariants.{Show, Write, Check, Rank, Prove}
use Rattle.fpl_run.specs.declared.task.Task.{Task}
use Rattle.fpl_run.specs.Words.{IsCommand, IsNoCommand}
use Rattle.fpl_run.specs.Task.{way_of, task_for}
use Rattle.fpl_run.specs.Matrices.{text_of_ranks}
use Rattle.fpl_run.specs.Start.{Start, walk_for, HasCome}
use Rattle.fpl_run.specs.CheckText.{check_text}
use Rattle.fpl_run.specs.Stream.{stream_text}
use Rattle.fpl_run.specs.Read.{IsUnread, IsStart, IsNoStart}

abbrev pub GivesProofs : Presentation → PlainTable → Result (List ℕ) ViewFault → Type 0
GivesProofs p T (Ok text) = IsWhyText p T text
GivesProofs p T (Err fault) = ⊥

abbrev pub Gives : Way → Start → Task → Stage → Result (List ℕ) ViewFault → Type 0
Gives (Show v) s t stage r = text_of_view v t.entries s.presentation stage.table stage.sections ≡ r
Gives Write s t stage r = Ok (stream_text s.presentation stage.sections) ≡ r
Gives Check s t stage r = Ok (check_text s.presentation.field t.limit stage.table.weight (length s.stored.bytes - stage.place)) ≡ r
Gives Rank s t stage r = text_of_ranks s.presentation s.matrices stage.table ≡ r
Gives Prove s t stage r = GivesProofs s.presentation stage.table r

abbrev pub written_before : Way → Presentation → List Section → List ℕ
written_before (Show v) p sections = []
written_before Write p sections = stream_text p sections
written_before Check p sections = []
written_before Rank p sections = []
written_before Prove p sections = []

pub data AnswersTask (t : Task) (s : Start) : Reply → Type 0 where
  stopped_at : (fault : Fault) → (walk_for t s).stop ≡ Some (failed fault) → AnswersTask t s
      (stopped (written_before t.way s.presentation (walk_for t s).stage.sections) fault)
  fails_in_view : HasCome t s → (fault : ViewFault) → Gives t.way s t (walk_for t s).stage (Err fault) → AnswersTask t s (failed_in_view fault)
  shown : HasCome t s → (text : List ℕ) → Gives t.way s t (walk_for t s).stage (Ok text) → AnswersTask t s (done text)

abbrev pub AnswersStart : Command → Start → Reply → Type 0
AnswersStart c s reply = AnswersTask (task_for c (way_of c.view)) s reply

pub data AnswersCommand (c : Command) (bytes : List ℕ) : Reply → Type 0 where
  no_start : (IsUnread c.view → ⊥) → (reply : Reply) → IsNoStart c bytes reply → AnswersCommand c bytes reply
  start : (s : Start) → IsStart c bytes s → (reply : Reply) → AnswersStart c s reply → AnswersCommand c bytes reply

pub data Answers (words : List (List ℕ)) (bytes : List ℕ) : Reply → Type 0 where
  no_command : IsNoCommand words → Answers words bytes usage
  command : (c : Command) → IsCommand words c → (reply : Reply) → AnswersCommand c bytes reply → Answers words bytes reply

abbrev pub IsFront : Task → Start → List ℕ → Type 0
IsFront t s text = (t.way ≡ Write) × (count : ℕ) × (text ≡ stream_text s.presentation (take count (walk_for t s).stage.sections))

abbrev pub FrontsStart : Command → Start → List ℕ → Type 0
FrontsStart c s text = IsFront (task_for c (way_of c.view)) s text

abbrev pub FrontsCommand : Command → List ℕ → List ℕ → Type 0
FrontsCommand c bytes text = (s : Start) × IsStart c bytes s × FrontsStart c s text

abbrev pub Fronts : List (List ℕ) → List ℕ → List ℕ → Type 0
Fronts words bytes text = (c : Command) × IsCommand words c × FrontsCommand c bytes text
