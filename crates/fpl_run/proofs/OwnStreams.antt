-- What the view checkpoint writes for a text is a checkpoint of its presentation.
use Rattle.std.proofs.Common.{◌≡◌, ℕ, ◌^◌, ◌<◌, ◌≤◌, inl, inr, List, length, take, Ok, Some, refl, sym, ap, ◌∙◌, subst, arith}
use Rattle.std.specs.declared.option.Option.{Option}
use Rattle.std.specs.declared.result.Result.{Result}
use Rattle.fpl_log.specs.declared.section.Section.{Section}
use Rattle.fpl_model.specs.declared.presentation.Presentation.{Presentation}
use Rattle.fpl_model.specs.Sound.{IsSound}
use Rattle.fpl_reader.specs.Reading.{HasPresentation}
use Rattle.fpl_reader.proofs.Soundness.{presentation_sound}
use Rattle.fpl_canonical.specs.Canonical.{canonical_of}
use Rattle.plain_texts.proofs.Texts.{canonical_short}
use Rattle.fpl_bytes.specs.declared.version.Version.TheVariants.{Two}
use Rattle.plain_streams.specs.Streams.{stream_of, IsStreamOf}
use Rattle.plain_streams.proofs.Written.{runs_write_streams}
use Rattle.fpl_reply.specs.declared.view_fault.ViewFault.{ViewFault}
use Rattle.fpl_reply.specs.Reply.{Reply, text_of}
use Rattle.fpl_run.specs.declared.words.Command.{Command}
use Rattle.fpl_run.specs.declared.task.Way.{Way}
use Rattle.fpl_run.specs.declared.task.Way.TheVariants.{Write, Check, Rank}
use Rattle.fpl_run.specs.Task.{way_of, task_for, IsServed}
use Rattle.fpl_run.specs.Stream.{stream_text}
use Rattle.fpl_run.specs.Start.{of_text, walk_for}
use Rattle.fpl_run.specs.Separator.{IsTextOf}
use Rattle.fpl_run.specs.Read.{IsCheckpoint, IsStart, most_text}
use Rattle.fpl_run.specs.Read.IsStart.{plain as whole_start}
use Rattle.fpl_run.specs.Read.Presents.{from_text}
use Rattle.fpl_run.specs.Answer.{AnswersTask}
use Rattle.fpl_run.specs.Answer.AnswersTask.{stopped_at, fails_in_view, shown}
use Rattle.fpl_run.specs.Laws.{CheckpointsAreOwn}
use Rattle.fpl_run.proofs.Names.{command_in_range}
use Rattle.fpl_run.proofs.Marks.{no_mark}
use Rattle.fpl_run.proofs.OneReply.{of_words, task_reply}
use Rattle.fpl_run.proofs.Replies.{written_reads}

written_is : (p : Presentation) (ss : List Section) → stream_text p ss ≡ stream_of Two p ss
unfolding stream_text
written_is p ss = refl

texts_same : (t u : List ℕ) → ◌≡◌ {A = Result (List ℕ) ViewFault} (Ok t) (Ok u) → t ≡ u
texts_same t u e = cc

module _ (c : Command) (p : Presentation) (end : ℕ) where
  abbrev sections : List Section
  sections = (walk_for (task_for c Write) (of_text p)).stage.sections

  task_writes : IsStreamOf p (take end (stream_text p sections)) → (r : Reply) → AnswersTask (task_for c Write) (of_text p) r →
      IsStreamOf p (take end (text_of r))
  task_writes kept _ (stopped_at f e) = kept
  task_writes kept _ (fails_in_view come f e) = cc
  task_writes kept _ (shown come text e) = subst (λ x. IsStreamOf p (take end x)) (texts_same (stream_text p sections) text e) kept

-- a view that writes reads a text as a text
plain : (c : Command) (p : Presentation) (bytes : List ℕ) → way_of c.view ≡ Write → HasPresentation bytes p → IsCheckpoint c bytes → ⊥
plain c p bytes made said (inl e) = let no : Write ≡ Check = sym made ∙ ap way_of e in cc
plain c p bytes made said (inr m) = no_mark bytes p said m.0

written_start : (c : Command) (p : Presentation) (text : List ℕ) → way_of c.view ≡ Write → length text ≤ most_text → HasPresentation text p →
    IsStart c text (of_text p)
written_start c p text made short said =
    whole_start (of_text p)
    (from_text (written_reads c made) short (plain c p text made said) text (subst (λ way. IsTextOf way text text) (sym made) refl) p said)
    (subst (λ way. IsServed way p.field) (sym made) (λ over. absurd over)) (λ also. let no : Write ≡ Rank = sym made ∙ also in cc)

pub checkpoints_are_own : CheckpointsAreOwn
checkpoints_are_own words c p text r end is made short said a long =
    let range = command_in_range words c is in
    let canonical : length (canonical_of p) < 2 ^ 32 = omega (arith, short, canonical_short text p said) in
    let sound : IsSound p = presentation_sound text p (omega (arith, short)) said in
    let kept : IsStreamOf p (take end (stream_text p (sections c p end))) =
    subst (λ x. IsStreamOf p (take end x)) (sym (written_is p (sections c p end)))
    (runs_write_streams p c.entries c.limit end sound canonical range.1 range.0 long) in
    task_writes c p end kept r (task_reply c text Write made (of_text p) (written_start c p text made short said) r
    (of_words words text c is r a))
