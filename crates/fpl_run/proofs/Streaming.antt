-- The end of a walk whose sections are written.
use Rattle.std.proofs.Common.{◌≡◌, ℕ, ◌⊎◌, ◌++◌, ◌∷◌, inl, inr, List, [], length, take, None, Some, Ok, refl, sym, ap, subst, ◌∙◌, append_assoc}
use Rattle.std.specs.declared.option.Option.{Option}
use Rattle.fpl_log.specs.declared.section.Section.{Section}
use Rattle.fpl_model.specs.declared.presentation.Presentation.{Presentation}
use Rattle.fpl_bytes.specs.declared.version.Version.TheVariants.{Two}
use Rattle.fpl_section_bytes.specs.Spelling.{section_bytes_of}
use Rattle.fpl_checkpoint.specs.Heads.{VERSION, head_bytes_of}
use Rattle.fpl_outside.specs.Outside.{Takes}
use Rattle.fpl_outside.specs.Whole.{WrotePrefix}
use Rattle.fpl_walk.specs.Stops.{PlainRun, stored_in}
use Rattle.fpl_walk.specs.Walk.{Stage, Fault, Stop, ended, failed, Walked, walk_of}
use Rattle.fpl_reply.specs.declared.put.Cut.{Cut}
use Rattle.fpl_reply.specs.declared.put.Cut.TheVariants as cut
use Rattle.fpl_reply.specs.Reply.{Reply, done, stopped, no_memory, write_fault, text_of, IsPut}
use Rattle.fpl_reply.specs.Leaves.{Leaves}
use Rattle.fpl_reply.specs.Leaves.Leaves.{whole, part, front}
use Rattle.fpl_reply.specs.Put.{IsCut, cut_reply}
use Rattle.fpl_reply.proofs.Leaving.{leaves_through}
use Rattle.fpl_run.specs.declared.task.Way.{Way}
use Rattle.fpl_run.specs.declared.task.Way.TheVariants.{Write}
use Rattle.fpl_run.specs.declared.task.Task.{Task}
use Rattle.fpl_run.specs.Task.{does_compute}
use Rattle.fpl_run.specs.Start.{Start, walk_for}
use Rattle.fpl_run.specs.Stream.{stream_text}
use Rattle.fpl_run.specs.Answer.{AnswersTask, IsFront, Gives, written_before}
use Rattle.fpl_run.specs.Answer.AnswersTask.{stopped_at, shown}
use Rattle.fpl_run.specs.Begin.{start_from, HasBegun, HasEnded, HasFailed}
use Rattle.fpl_run.proofs.Streams.{stream_put, front_of, head_part, part_within, section_part}
use Rattle.fpl_run.proofs.Ends.{walk_begun, ended_stage, ended_stop}

-- the checkpoint of a walk that has come to the limit, or that a fault stopped
pub data IsStreamed (p : Presentation) (w : Walked) : Reply → Type 0 where
  to_the_limit : (w.stop ≡ None) ⊎ (w.stop ≡ Some ended) → IsStreamed p w (done (stream_text p w.stage.sections))
  to_a_fault : (fault : Fault) → w.stop ≡ Some (failed fault) → IsStreamed p w (stopped (stream_text p w.stage.sections) fault)

abbrev pub IsCutShort : Presentation → Walked → List ℕ → Type 0
IsCutShort p w text = (count : ℕ) × (text ≡ stream_text p (take count w.stage.sections))

-- what stands of such a checkpoint
abbrev pub LeavesStream : Presentation → Walked → Option (List ℕ) → Option (List ℕ) → Reply → Type 0
LeavesStream p w a b r = Leaves (IsStreamed p w) (IsCutShort p w) a b r

-- what stands after a walk
module _ (p : Presentation) (w : Walked) (a b : Option (List ℕ)) where
  abbrev all : List Section
  all = w.stage.sections

  record IsMade : Type 0 where
    reply : Reply
    streamed : IsStreamed p w reply
    text : text_of reply ≡ stream_text p all
    put : IsPut reply

  made_at : (o : Option Stop) → w.stop ≡ o → IsMade
  made_at None e = record { reply = done (stream_text p all); streamed = to_the_limit (inl e); text = refl; put = tt }
  made_at (Some ended) e = record { reply = done (stream_text p all); streamed = to_the_limit (inr e); text = refl; put = tt }
  made_at (Some (failed f)) e = record { reply = stopped (stream_text p all) f; streamed = to_a_fault f e; text = refl; put = stream_put p all }

  made : IsMade
  made = made_at w.stop refl

  -- memory ran out after some sections
  pub front_streamed : (ss rest : List Section) → all ≡ ss ++ rest → Takes a b (stream_text p ss) → LeavesStream p w a b no_memory
  front_streamed ss rest e t = front (inr (stream_text p ss, (length ss, front_of p ss rest all e), t))

  -- a put failed in the last of some sections
  pub part_streamed : (ss rest : List Section) → all ≡ ss ++ rest → WrotePrefix a b (stream_text p ss) → LeavesStream p w a b write_fault
  part_streamed ss rest e t = part made.reply made.streamed made.put (rw made.text (part_within p a b ss rest all e t))

  pub head_cut : (x : Cut) → IsCut (head_bytes_of VERSION p) a b x → LeavesStream p w a b (cut_reply x)
  head_cut cut.NoMemory h = front (inl h)
  head_cut cut.WriteFault h = part_streamed [] all refl (head_part p a b h)

  all_taken : (stage : Stage) → w.stage ≡ stage → Takes a b (stream_text p stage.sections) → Takes a b (stream_text p all)
  all_taken stage e t = subst (λ x. Takes a b x) (ap (λ (x : Stage). stream_text p x.sections) (sym e)) t

  pub failed_streamed : (stage : Stage) (r : Reply) (rest : List Section) → all ≡ stage.sections ++ rest →
      Takes a b (stream_text p stage.sections) → HasFailed stage w r → LeavesStream p w a b r
  failed_streamed stage r rest e t (inl n) = subst (λ x. LeavesStream p w a b x) (sym n) (front_streamed stage.sections rest e t)
  failed_streamed stage r rest e t (inr k) =
      subst (λ x. LeavesStream p w a b x) (sym k.2) (whole (stopped [] k.0) (stream_text p all)
      (to_a_fault k.0 (ap (λ (v : Walked). v.stop) k.1)) (all_taken stage (ap (λ (v : Walked). v.stage) k.1) t))

  pub limit_streamed : (stage : Stage) → HasEnded stage w → Takes a b (stream_text p stage.sections) → LeavesStream p w a b (done [])
  limit_streamed stage h t =
      whole (done []) (stream_text p all) (to_the_limit (ended_stop stage w h)) (all_taken stage (ended_stage stage w h) t)

-- memory ran out, or a put failed, at a section after others
pub section_cut : (p : Presentation) (w : Walked) (a b c : Option (List ℕ)) (ss : List Section) (s : Section)
    (rest : List Section) → w.stage.sections ≡ (ss ++ s ∷ []) ++ rest →
    Takes a b (stream_text p ss) → (x : Cut) → IsCut (section_bytes_of Two p.field s) b c x → LeavesStream p w a c (cut_reply x)
section_cut p w a b c ss s rest e t cut.NoMemory h =
    front_streamed p w a c ss (s ∷ rest) (e ∙ append_assoc ss (s ∷ []) rest) (subst (λ o. Takes a o (stream_text p ss)) (sym h) t)
section_cut p w a b c ss s rest e t cut.WriteFault h = part_streamed p w a c (ss ++ s ∷ []) rest e (section_part p a b c ss s t h)

-- the replies and fronts of a walk are those of its task
module _ (t : Task) (s : Start) (w : Walked) (way : t.way ≡ Write) (same : w ≡ walk_for t s) where
  pub streamed_task : (r : Reply) → IsStreamed s.presentation w r → AnswersTask t s r
  streamed_task _ (to_the_limit e) =
      shown (subst (λ (v : Walked). (v.stop ≡ None) ⊎ (v.stop ≡ Some ended)) same e) (stream_text s.presentation w.stage.sections)
      (subst (λ (x : Way). Gives x s t (walk_for t s).stage (Ok (stream_text s.presentation w.stage.sections))) (sym way)
      (ap (λ (v : Walked). Ok (stream_text s.presentation v.stage.sections)) (sym same)))
  streamed_task _ (to_a_fault f e) =
      let stop : (walk_for t s).stop ≡ Some (failed f) = ap (λ (v : Walked). v.stop) (sym same) ∙ e in
      let text : written_before t.way s.presentation (walk_for t s).stage.sections ≡ stream_text s.presentation w.stage.sections =
      ap (λ (x : Way). written_before x s.presentation (walk_for t s).stage.sections) way ∙
      ap (λ (v : Walked). stream_text s.presentation v.stage.sections) (sym same) in
      subst (λ x. AnswersTask t s (stopped x f)) text (stopped_at f stop)

  pub cut_task : (text : List ℕ) → IsCutShort s.presentation w text → IsFront t s text
  cut_task text h = (way, h.0, h.1 ∙ ap (λ (v : Walked). stream_text s.presentation (take h.0 v.stage.sections)) same)

  pub stream_leaves : (a b : Option (List ℕ)) (r : Reply) → LeavesStream s.presentation w a b r → Leaves (AnswersTask t s) (IsFront t s) a b r
  stream_leaves a b r h = leaves_through (IsStreamed s.presentation w) (AnswersTask t s) (IsCutShort s.presentation w)
      (IsFront t s) a b streamed_task cut_task r h

-- a run that has just begun
pub run_leaves : (t : Task) (run : PlainRun) (bytes : List ℕ) → t.way ≡ Write → HasBegun run → (a b : Option (List ℕ)) (r : Reply) →
    LeavesStream run.presentation (walk_of (does_compute t.way) t.entries run.presentation (stored_in run bytes) t.limit run.stage) a b r →
    Leaves (AnswersTask t (start_from run bytes)) (IsFront t (start_from run bytes)) a b r
run_leaves t run bytes way begun a b r h =
    stream_leaves t (start_from run bytes) (walk_of (does_compute t.way) t.entries run.presentation (stored_in run bytes) t.limit run.stage) way
    (sym (walk_begun t run bytes begun)) a b r h
