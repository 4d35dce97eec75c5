-- What the replies obey. The words spell the command c, and the bytes of an input are bytes.
--   OneReply: words and the bytes of an input have at most one reply, where no proofs are asked for; of these any will do
--   OneText: inputs with one presentation, whoever made the checkpoints among them, have one text of a view that is of the table alone
--   WalksAreStandard: the table of a walk is the standard table of the presentation that was read, through the weight that the walk has
--     come to, and its symbols
--   stay within the entries
--   PrimesFit: over a prime no reply is that an operation doesn't fit, whatever is stored
--   StopsMean: what a fault says over the standard table that the walk had come to
--   LimitComes: where the symbols pass the entries, and nothing stops the walk through the weights below, the reply says the first such weight and their number
--   FaultsCome: the same of each fault that means what it says, after a walk through the weights below that nothing stops
--   IsCheckpointOf p bytes: a checkpoint of a presentation's own, as a run writes it, whole or cut after its head, and no longer than an input may be
--   IsOwnReply c p r: Done or Limit, where the command is a check; that the view is unsupported, where it works over primes alone and p is over fractions;
--   else the reply to the presentation
--   OwnCheckpoints: where the input is read, and may be a checkpoint, it has the reply of the presentation; and passes a check, but for the number of symbols
--   CheckpointsAreOwn: what the view checkpoint writes for a text is one, and so is each front of it that has the head
--   IsInput c p bytes: the bytes are a text of p, or a checkpoint of its own; where matrices are taken, a text of p and one of matrices after the separating line;
--   or nothing is read, and p is the built-in presentation
--   IsWithinLimits words bytes: the words ask for a view, but no check, of a presentation that the bytes are an input of; its symbols, over its standard table,
--   stay within the entries; the view works over its field, and over fractions each weight's operations fit; and the view has no fault of its own over its table
--   WithinLimits: then the reply is a text
--   FractionsUnsupported: where a view works over primes alone, and what was read is over fractions, the reply is that it is unsupported
use Rattle.std.specs.Prelude.{ℕ, ◌≡◌, ◌≤◌, ◌-◌, ◌⊎◌, List, length, take, true, Some, None, Err}
use Rattle.fpl_numbers.specs.declared.number.Unfit.{Unfit}
use Rattle.fpl_numbers.specs.declared.number.Kind.TheVariants.{Rational, Prime}
use Rattle.fpl_log.specs.declared.section.Section.{Section}
use Rattle.fpl_model.specs.declared.presentation.Presentation.{Presentation}
use Rattle.fpl_reader.specs.Reading.{HasPresentation}
use Rattle.fpl_matrices.specs.Matrices.{Assigned}
use Rattle.fpl_table.specs.Plain.{PlainTable}
use Rattle.fpl_table.specs.Standard.{IsTableOf, PassesAt}
use Rattle.plain_tables.specs.Raised.{IsRaised}
use Rattle.plain_weights.specs.Section.{FitsAt}
use Rattle.fpl_bytes.specs.Codes.{IsBytes}
use Rattle.fpl_checkpoint.specs.Heads.{VERSION, head_bytes_of}
use Rattle.fpl_sample.specs.TypeA.{type_a}
use Rattle.fpl_walk.specs.Walk.{Fault, too_many, overflow}
use Rattle.plain_walks.specs.Walks.{IsStandardWalk, FaultMeans}
use Rattle.plain_walks.specs.Laws.{IsWithin}
use Rattle.plain_streams.specs.Streams.{IsStreamOf}
use Rattle.fpl_reply.specs.declared.status.Status.TheVariants.{Done, Limit}
use Rattle.fpl_reply.specs.declared.view_fault.ViewFault.{ViewFault}
use Rattle.fpl_reply.specs.Reply.{Reply, done, unsupported, stopped, status_of, text_of}
use Rattle.fpl_views.specs.declared.shown.Shown.{Shown}
use Rattle.fpl_views.specs.Views.{text_of_view, IsOfTable}
use Rattle.fpl_run.specs.declared.words.Command.{Command}
use Rattle.fpl_run.specs.declared.task.Way.{Way}
use Rattle.fpl_run.specs.declared.task.Way.TheVariants.{Show, Write, Check, Rank, Prove}
use Rattle.fpl_run.specs.Words.{IsCommand, view_name}
use Rattle.fpl_run.specs.Task.{way_of, task_for, does_compute, IsOverPrimes, IsServed}
use Rattle.fpl_run.specs.Separator.{IsFirstSeparator}
use Rattle.fpl_run.specs.Matrices.{HasMatrices}
use Rattle.fpl_run.specs.Start.{Start, of_text, walk_for}
use Rattle.fpl_run.specs.Read.{IsUnread, Presents, IsStart, most_bytes, most_text}
use Rattle.fpl_run.specs.Answer.{Answers, AnswersStart}

abbrev pub OneReply : Type 0
OneReply =
    (words : List (List ℕ)) (bytes : List ℕ) (r s : Reply) → ((c : Command) → IsCommand words c → way_of c.view ≡ Prove → ⊥) →
    Answers words bytes r → Answers words bytes s → r ≡ s

abbrev pub OneText : Type 0
OneText =
    (words : List (List ℕ)) (c : Command) (v : Shown) (bytes more : List ℕ) (s t : Start) (text also : List ℕ) → IsCommand words c →
    way_of c.view ≡ Show v → IsOfTable v →
    IsBytes bytes → IsBytes more → IsStart c bytes s → IsStart c more t → s.presentation ≡ t.presentation →
    Answers words bytes (done text) → Answers words more (done also) → text ≡ also

abbrev pub WalksAreStandard : Type 0
WalksAreStandard =
    (words : List (List ℕ)) (c : Command) (way : Way) (bytes : List ℕ) (s : Start) → IsCommand words c → IsBytes bytes → IsStart c bytes s →
    IsStandardWalk s.presentation c.entries c.limit (walk_for (task_for c way) s)

abbrev pub PrimesFit : Type 0
PrimesFit =
    (n : ℕ) (words : List (List ℕ)) (c : Command) (bytes : List ℕ) (s : Start) (text : List ℕ) (w : ℕ) (u : Unfit) → IsCommand words c →
    IsBytes bytes → IsStart c bytes s →
    s.presentation.field ≡ Prime n → Answers words bytes (stopped text (overflow w u)) → ⊥

abbrev pub StopsMean : Type 0
StopsMean =
    (words : List (List ℕ)) (c : Command) (way : Way) (bytes : List ℕ) (s : Start) (text : List ℕ) (fault : Fault) → IsCommand words c →
    way_of c.view ≡ way →
    IsBytes bytes → IsStart c bytes s → Answers words bytes (stopped text fault) →
    FaultMeans (does_compute way) c.entries c.limit s.presentation s.stored (walk_for (task_for c way) s).stage fault

abbrev pub LimitComes : Type 0
LimitComes =
    (words : List (List ℕ)) (c : Command) (way : Way) (bytes : List ℕ) (s : Start) (w count : ℕ) (r : Reply) → IsCommand words c →
    way_of c.view ≡ way → IsBytes bytes →
    IsStart c bytes s → PassesAt s.presentation c.limit c.entries w count →
    (walk_for (record { way = way; limit = w - 1; entries = c.entries }) s).stop ≡ None →
    Answers words bytes r → (text : List ℕ) × (r ≡ stopped text (too_many w count))

abbrev pub FaultsCome : Type 0
FaultsCome =
    (words : List (List ℕ)) (c : Command) (way : Way) (bytes : List ℕ) (s : Start) (w : ℕ) (fault : Fault) (r : Reply) → IsCommand words c →
    way_of c.view ≡ way →
    IsBytes bytes → IsStart c bytes s → 1 ≤ w → w ≤ c.limit →
    let below = walk_for (record { way = way; limit = w - 1; entries = c.entries }) s in
    below.stop ≡ None → FaultMeans (does_compute way) c.entries c.limit s.presentation s.stored below.stage fault →
    Answers words bytes r → (text : List ℕ) × (r ≡ stopped text fault)

abbrev pub IsCheckpointOf : Presentation → List ℕ → Type 0
IsCheckpointOf p bytes = (length bytes ≤ most_bytes) × IsStreamOf p bytes

pub record IsOwnReply (c : Command) (p : Presentation) (r : Reply) : Type 0 where
  pub checked : way_of c.view ≡ Check → (status_of r ≡ Done) ⊎ (status_of r ≡ Limit)
  pub unserved : IsOverPrimes (way_of c.view) → p.field ≡ Rational → r ≡ unsupported (view_name c.view)
  pub answered : (way_of c.view ≡ Check → ⊥) → IsServed (way_of c.view) p.field → AnswersStart c (of_text p) r

abbrev pub OwnCheckpoints : Type 0
OwnCheckpoints =
    (words : List (List ℕ)) (c : Command) (p : Presentation) (bytes : List ℕ) (r : Reply) → IsCommand words c → (IsUnread c.view → ⊥) →
    (way_of c.view ≡ Rank → ⊥) → IsCheckpointOf p bytes → Answers words bytes r → IsOwnReply c p r

abbrev pub CheckpointsAreOwn : Type 0
CheckpointsAreOwn =
    (words : List (List ℕ)) (c : Command) (p : Presentation) (text : List ℕ) (r : Reply) (end : ℕ) → IsCommand words c → way_of c.view ≡ Write →
    length text ≤ most_text →
    HasPresentation text p → Answers words text r → length (head_bytes_of VERSION p) ≤ end → IsStreamOf p (take end (text_of r))

pub data IsInput (c : Command) (p : Presentation) (bytes : List ℕ) : Type 0 where
  as_text : (IsUnread c.view → ⊥) → (way_of c.view ≡ Rank → ⊥) → length bytes ≤ most_text → HasPresentation bytes p → IsInput c p bytes
  as_checkpoint : (IsUnread c.view → ⊥) → (way_of c.view ≡ Rank → ⊥) → IsCheckpointOf p bytes → IsInput c p bytes
  with_matrices : way_of c.view ≡ Rank → length bytes ≤ most_text → (at : ℕ) → IsFirstSeparator bytes at → HasPresentation (take at bytes) p →
      (a : Assigned) → HasMatrices bytes p a → IsInput c p bytes
  as_built_in : IsUnread c.view → p ≡ type_a c.limit → IsInput c p bytes

pub record IsWithinLimits (words : List (List ℕ)) (bytes : List ℕ) : Type 0 where
  pub command : Command
  pub spelled : IsCommand words command
  pub way : Way
  pub built : way_of command.view ≡ way
  pub computes : does_compute way ≡ true
  pub presentation : Presentation
  pub input : IsInput command presentation bytes
  pub served : IsServed way presentation.field
  pub within : IsWithin presentation command.limit command.entries
  pub fits : presentation.field ≡ Rational → (w : ℕ) → 1 ≤ w → w ≤ command.limit → FitsAt presentation w
  pub shows : (v : Shown) → way ≡ Show v → (T : PlainTable) (sections : List Section) (fault : ViewFault) → IsTableOf presentation command.limit T →
      IsRaised presentation T →
      text_of_view v command.entries presentation T sections ≡ Err fault → ⊥

abbrev pub FractionsUnsupported : Type 0
FractionsUnsupported =
    (words : List (List ℕ)) (c : Command) (bytes : List ℕ) (s : Start) (r : Reply) → IsCommand words c → IsOverPrimes (way_of c.view) →
    Presents c bytes s → s.presentation.field ≡ Rational → Answers words bytes r → r ≡ unsupported (view_name c.view)

abbrev pub WithinLimits : Type 0
WithinLimits = (words : List (List ℕ)) (bytes : List ℕ) (r : Reply) → IsWithinLimits words bytes → Answers words bytes r → status_of r ≡ Done
