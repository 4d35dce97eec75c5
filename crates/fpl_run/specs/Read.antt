-- What the bytes of an input are for a command.
--   most_bytes, most_text: the most bytes of any input, and of one that is no checkpoint
--   IsUnread: a view that reads no input
--   IsMarked: there is a first byte, and it is the mark
--   IsCheckpoint: the input is a checkpoint, as the view check takes every input for one; else it is a text. A view that takes matrices takes none
--   Presents c bytes s: all ways to a presentation: a text, for which nothing is stored; the head of a checkpoint, after which sections may be stored; or,
--   where nothing is read, the presentation of type A whose rank is the limit
--   PresentsNone c bytes reply: an input that is read is too long; a text is too long, or no presentation; or the head of a checkpoint is refused
--   IsMapped bytes p a: the text after the separating line gives matrices for which all relations of p hold
--   IsNotMapped limit bytes p reply: there is no such line; the text after it gives no matrices; or it does, and some relation doesn't hold for them
--   IsStart c bytes s: what a walk through the weights starts with: a presentation over a field that the view works over; where the view takes matrices, with
--   such matrices
--   IsNoStart c bytes reply: no weight is gone through, and this is the reply: there is no presentation; it is over fractions, and the view works over primes
--   alone; or it has no such matrices
use Rattle.std.specs.Prelude.{ℕ, ◌≡◌, ◌≤◌, ◌<◌, ◌⊎◌, List, [], length, slice_index, Err}
use Rattle.fpl_numbers.specs.declared.number.Kind.TheVariants.{Rational}
use Rattle.fpl_model.specs.declared.presentation.Presentation.{Presentation}
use Rattle.fpl_reader.specs.declared.fault.Reason.{Reason}
use Rattle.fpl_reader.specs.Reading.{HasPresentation, IsRefused}
use Rattle.fpl_bytes.specs.declared.fault.BadBytes.{BadBytes}
use Rattle.fpl_checkpoint.specs.declared.head.Head.{Head}
use Rattle.fpl_checkpoint.specs.Heads.{checkpoint_mark}
use Rattle.fpl_checkpoint.specs.Scans.{HasHead, IsBadHead}
use Rattle.fpl_sample.specs.TypeA.{type_a}
use Rattle.fpl_matrices.specs.declared.fault.MapError.{MapError}
use Rattle.fpl_matrices.specs.Matrices.{Assigned, IsFirstBroken}
use Rattle.fpl_matrices.specs.MapText.{map_of}
use Rattle.fpl_matrices.specs.Laws.{NoneBroken}
use Rattle.fpl_ranks.specs.Texts.{broken_text}
use Rattle.fpl_walk.specs.Walk.{bad_bytes}
use Rattle.fpl_reader.specs.Reasons.{reason_text}
use Rattle.fpl_reply.specs.declared.outcome.Refusal.{Refusal}
use Rattle.fpl_reply.specs.declared.outcome.Refusal.TheVariants.{NoMatrices}
use Rattle.fpl_reply.specs.Outcome.{too_long, refusal_text}
use Rattle.fpl_reply.specs.Reply.{Reply, done, refused, unsupported, stopped}
use Rattle.fpl_run.specs.declared.words.View.{View}
use Rattle.fpl_run.specs.declared.words.View.TheVariants.{Check, Sample}
use Rattle.fpl_run.specs.declared.words.Command.{Command}
use Rattle.fpl_run.specs.declared.task.Way.TheVariants.{Rank}
use Rattle.fpl_run.specs.Words.{view_name}
use Rattle.fpl_run.specs.Task.{way_of, IsOverPrimes, IsServed}
use Rattle.fpl_run.specs.Separator.{IsFirstSeparator, HasNoSeparator, after_separator, IsTextOf}
use Rattle.fpl_run.specs.Matrices.{HasMatrices, MapFails}
use Rattle.fpl_run.specs.Start.{Start, of_text, of_head, with_matrices}

abbrev pub most_bytes : ℕ
most_bytes = 1073741824

abbrev pub most_text : ℕ
most_text = 67108864

abbrev pub IsUnread : View → Type 0
IsUnread view = view ≡ Sample

abbrev pub IsMarked : List ℕ → Type 0
IsMarked bytes = (0 < length bytes) × (slice_index bytes 0 ≡ checkpoint_mark)

abbrev pub IsCheckpoint : Command → List ℕ → Type 0
IsCheckpoint c bytes = (c.view ≡ Check) ⊎ (IsMarked bytes × (way_of c.view ≡ Rank → ⊥))

pub data Presents (c : Command) (bytes : List ℕ) : Start → Type 0 where
  from_text : (IsUnread c.view → ⊥) → length bytes ≤ most_text → (IsCheckpoint c bytes → ⊥) → (text : List ℕ) → IsTextOf (way_of c.view) bytes text →
      (p : Presentation) → HasPresentation text p → Presents c bytes (of_text p)
  from_head : (IsUnread c.view → ⊥) → length bytes ≤ most_bytes → IsCheckpoint c bytes → (h : Head) → HasHead bytes h → Presents c bytes (of_head bytes h)
  built_in : IsUnread c.view → Presents c bytes (of_text (type_a c.limit))

pub data PresentsNone (c : Command) (bytes : List ℕ) : Reply → Type 0 where
  input_too_long : most_bytes < length bytes → PresentsNone c bytes (refused most_bytes too_long)
  text_too_long : length bytes ≤ most_bytes → (IsCheckpoint c bytes → ⊥) → most_text < length bytes → PresentsNone c bytes (refused most_text too_long)
  no_presentation : length bytes ≤ most_text → (IsCheckpoint c bytes → ⊥) → (text : List ℕ) → IsTextOf (way_of c.view) bytes text →
      (place : ℕ) (reason : Reason) → IsRefused text place reason → PresentsNone c bytes (refused place (reason_text reason))
  no_head : length bytes ≤ most_bytes → IsCheckpoint c bytes → (b : BadBytes) → IsBadHead bytes b → PresentsNone c bytes (stopped [] (bad_bytes b))

pub record IsMapped (bytes : List ℕ) (p : Presentation) (a : Assigned) : Type 0 where
  pub given : HasMatrices bytes p a
  pub hold : NoneBroken p a

pub data IsNotMapped (limit : ℕ) (bytes : List ℕ) (p : Presentation) : Reply → Type 0 where
  no_matrices : HasNoSeparator bytes → IsNotMapped limit bytes p (refused (length bytes) (refusal_text NoMatrices))
  map_fails : (at : ℕ) → IsFirstSeparator bytes at → (e : MapError) → map_of p bytes (after_separator bytes at) ≡ Err e → (place : ℕ) (why : Refusal) →
      MapFails e place why → IsNotMapped limit bytes p (refused place (refusal_text why))
  relation_breaks : (a : Assigned) → HasMatrices bytes p a → (k : ℕ) → IsFirstBroken p a k → IsNotMapped limit bytes p (done (broken_text p.field limit k))

pub data IsStart (c : Command) (bytes : List ℕ) : Start → Type 0 where
  plain : (s : Start) → Presents c bytes s → IsServed (way_of c.view) s.presentation.field → (way_of c.view ≡ Rank → ⊥) → IsStart c bytes s
  with_map : (s : Start) → Presents c bytes s → IsServed (way_of c.view) s.presentation.field → way_of c.view ≡ Rank → (a : Assigned) →
      IsMapped bytes s.presentation a → IsStart c bytes (with_matrices a s)

pub data IsNoStart (c : Command) (bytes : List ℕ) : Reply → Type 0 where
  nothing_presented : (reply : Reply) → PresentsNone c bytes reply → IsNoStart c bytes reply
  unserved : (s : Start) → Presents c bytes s → IsOverPrimes (way_of c.view) → s.presentation.field ≡ Rational →
      IsNoStart c bytes (unsupported (view_name c.view))
  not_mapped : (s : Start) → Presents c bytes s → IsServed (way_of c.view) s.presentation.field → way_of c.view ≡ Rank → (reply : Reply) →
      IsNotMapped c.limit bytes s.presentation reply → IsNoStart c bytes reply
