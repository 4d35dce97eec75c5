-- What a walk and its text mean.
use Rattle.std.proofs.Common.{◌≡◌, ℕ, ◌<◌, ◌≤◌, ◌+◌, ◌^◌, ◌⊎◌, inl, inr, List, [], ◌++◌, drop, length, length-append, Ok, Err, None, Some, refl, sym, ap, ◌∙◌, subst, arith}
use Rattle.std.specs.Prelude.{IfSome}
use Rattle.std.specs.Int.{w32, to_be_bytes}
use Rattle.std.specs.declared.option.Option.{Option}
use Rattle.fpl_model.specs.declared.presentation.Presentation.{Presentation}
use Rattle.fpl_model.specs.Sound.{IsSound}
use Rattle.fpl_reader.proofs.Soundness.{presentation_sound}
use Rattle.fpl_canonical.specs.Canonical.{canonical_of}
use Rattle.fpl_sample.proofs.Sound.{type_a_is_sound}
use Rattle.fpl_bytes.specs.Codes.{IsBytes}
use Rattle.fpl_checkpoint.specs.declared.head.Head.{Head}
use Rattle.fpl_checkpoint.specs.Heads.{head_bytes_of}
use Rattle.fpl_checkpoint.specs.Scans.{HasHead}
use Rattle.fpl_checkpoint.proofs.OneHead.{head_taken}
use Rattle.fpl_table.specs.Plain.{PlainTable}
use Rattle.fpl_table.specs.Standard.{IsTableOf}
use Rattle.fpl_outside.specs.Outside.{Takes}
use Rattle.fpl_walk.specs.Walk.{Fault, too_many, bad_bytes, bad_section, overflow, failed}
use Rattle.plain_walks.specs.Walks.{IsStandardWalk}
use Rattle.plain_walks.proofs.Walking.{walks_are_standard}
use Rattle.fpl_reply.specs.declared.status.Status.TheVariants.{Done}
use Rattle.fpl_reply.specs.declared.view_fault.ViewFault.{ViewFault}
use Rattle.fpl_reply.specs.declared.view_fault.ViewFault.TheVariants as view
use Rattle.fpl_reply.specs.Reply.{Reply, done, usage, refused, unsupported, stopped, failed_in_view, no_memory, read_fault, write_fault, fault_status, view_fault_status, status_of, text_of, with_text}
use Rattle.fpl_reply.specs.Leaves.{Leaves}
use Rattle.fpl_reply.specs.Leaves.Leaves.{whole, part, front}
use Rattle.fpl_reply.proofs.Leaving.{status_shown}
use Rattle.fpl_views.specs.declared.shown.Shown.{Shown}
use Rattle.fpl_views.proofs.Texts.{texts_show}
use Rattle.fpl_run.specs.declared.words.Command.{Command}
use Rattle.fpl_run.specs.declared.task.Way.{Way}
use Rattle.fpl_run.specs.declared.task.Way.TheVariants.{Show, Rank}
use Rattle.fpl_run.specs.declared.task.Task.{Task}
use Rattle.fpl_run.specs.Words.{IsCommand, most_limit}
use Rattle.fpl_run.specs.Task.{way_of, task_for, does_compute, IsServed}
use Rattle.fpl_run.specs.Start.{Start, begun_for, walk_for, HasCome}
use Rattle.fpl_run.specs.Read.{IsUnread, Presents, IsStart, most_bytes}
use Rattle.fpl_run.specs.Read.Presents.{from_text, from_head, built_in}
use Rattle.fpl_run.specs.Read.IsStart.{plain, with_map}
use Rattle.fpl_run.specs.Answer.{AnswersTask, Answers, Fronts, Gives}
use Rattle.fpl_run.specs.Answer.AnswersTask.{stopped_at, fails_in_view, shown}
use Rattle.fpl_run.specs.Run.{ReadsNothing, IfTold, Means}
use Rattle.fpl_run.proofs.Names.{command_in_range, one_command}
use Rattle.fpl_run.proofs.OneReply.{of_words, task_reply, started}
use Rattle.fpl_run.proofs.Separators.{text_shorter}
use Rattle.fpl_run.proofs.Walks.{never_ends}

pub no_bytes : IsBytes []
no_bytes i = omega arith

head_sound : (bytes : List ℕ) (h : Head) → length bytes ≤ most_bytes → IsBytes bytes → HasHead bytes h → IsSound h.presentation
head_sound bytes h short fits has =
    let text = canonical_of h.presentation in
    let parts : bytes ≡ head_bytes_of h.version h.presentation ++ drop h.end bytes = (head_taken bytes h fits has).1 in
    let all : length bytes ≡ length (head_bytes_of h.version h.presentation) + length (drop h.end bytes) =
    ap length parts ∙ length-append (head_bytes_of h.version h.presentation) (drop h.end bytes) in
    let head : length (head_bytes_of h.version h.presentation) ≡ 5 + length (to_be_bytes w32 (length text) ++ text) = omega arith in
    let rest : length (to_be_bytes w32 (length text) ++ text) ≡ length (to_be_bytes w32 (length text)) + length text =
    length-append (to_be_bytes w32 (length text)) text in
    let small : length text < 2 ^ 32 = omega (arith, short, all, head, rest) in
    let same : length has.text ≡ length text = ap length has.canonical in
    presentation_sound has.text h.presentation (omega (arith, small, same)) has.reading

-- a start has a sound presentation, and bytes are stored for it
module _ (c : Command) (bytes : List ℕ) (fits : (IsUnread c.view → ⊥) → IsBytes bytes) where
  pub presented_sound : c.limit ≤ most_limit c.view → (s : Start) → Presents c bytes s → IsSound s.presentation
  presented_sound low _ (from_text u l a x e p h) =
      presentation_sound x p (let shorter = text_shorter (way_of c.view) bytes x e in omega (arith, l, shorter)) h
  presented_sound low _ (from_head u l a h k) = head_sound bytes h l (fits u) k
  presented_sound low _ (built_in u) = type_a_is_sound c.limit (subst (λ v. c.limit ≤ most_limit v) u low)

  pub start_sound : c.limit ≤ most_limit c.view → (s : Start) → IsStart c bytes s → IsSound s.presentation
  start_sound low _ (plain s h sv n) = presented_sound low s h
  start_sound low _ (with_map s h sv made a i) = presented_sound low s h

  presented_bytes : (s : Start) → Presents c bytes s → IsBytes s.stored.bytes
  presented_bytes _ (from_text u l a x e p h) = no_bytes
  presented_bytes _ (from_head u l a h k) = fits u
  presented_bytes _ (built_in u) = no_bytes

  pub start_bytes : (s : Start) → IsStart c bytes s → IsBytes s.stored.bytes
  start_bytes _ (plain s h sv n) = presented_bytes s h
  start_bytes _ (with_map s h sv made a i) = presented_bytes s h

pub walk_standard : (words : List (List ℕ)) (c : Command) (way : Way) (bytes : List ℕ) (s : Start) → IsCommand words c → ((IsUnread c.view → ⊥) → IsBytes bytes) → IsStart c bytes s →
    IsStandardWalk s.presentation c.entries c.limit (walk_for (task_for c way) s)
walk_standard words c way bytes s is fits from =
    let range = command_in_range words c is in
    walks_are_standard (does_compute way) c.entries c.limit s.place s.has s.presentation s.stored (start_sound c bytes fits is.most s from) range.1 range.0
    (start_bytes c bytes fits s from)

-- a view works over the field of its start
pub start_served : (c : Command) (bytes : List ℕ) (s : Start) → IsStart c bytes s → IsServed (way_of c.view) s.presentation.field
start_served c bytes _ (plain s h sv n) = sv
start_served c bytes _ (with_map s h sv made a i) = sv

shown_plain : (c : Command) (v : Shown) → way_of c.view ≡ Show v → way_of c.view ≡ Rank → ⊥
shown_plain c v made also = let no : Show v ≡ Rank = sym made ∙ also in cc

-- what a reply says of its walk
abbrev pub Tells : Task → Start → Reply → Type 0
Tells t s (done text) = HasCome t s × (Gives t.way s t (walk_for t s).stage (Ok text))
Tells t s usage = Unit {0}
Tells t s (refused place reason) = Unit {0}
Tells t s (unsupported name) = Unit {0}
Tells t s (stopped text fault) = (walk_for t s).stop ≡ Some (failed fault)
Tells t s (failed_in_view fault) = HasCome t s × (Gives t.way s t (walk_for t s).stage (Err fault))
Tells t s no_memory = Unit {0}
Tells t s read_fault = Unit {0}
Tells t s write_fault = Unit {0}

task_tells : (t : Task) (s : Start) (r : Reply) → AnswersTask t s r → Tells t s r
task_tells t s _ (stopped_at f e) = e
task_tells t s _ (fails_in_view come f e) = (come, e)
task_tells t s _ (shown come text e) = (come, e)

pub reply_tells : (words : List (List ℕ)) (c : Command) (way : Way) (bytes : List ℕ) (s : Start) (r : Reply) → IsCommand words c →
    way_of c.view ≡ way → IsStart c bytes s →
    Answers words bytes r → Tells (task_for c way) s r
reply_tells words c way bytes s r is made from a = task_tells (task_for c way) s r (task_reply c bytes way made s from r (of_words words bytes c is r a))

-- a view of a table comes to the limit
pub shown_through : (c : Command) (v : Shown) (s : Start) → HasCome (task_for c (Show v)) s → (walk_for (task_for c (Show v)) s).stop ≡ None
shown_through c v s (inl e) = e
shown_through c v s (inr e) = absurd (never_ends c.entries s.presentation s.stored c.limit (begun_for s) e)

pub table_at : (p : Presentation) (T : PlainTable) (d e : ℕ) → d ≡ e → IsTableOf p d T → IsTableOf p e T
table_at p T d e same h = subst (λ n. IsTableOf p n T) same h

meant : (words : List (List ℕ)) (c : Command) (v : Shown) (bytes : List ℕ) (s : Start) (text : List ℕ) → IsCommand words c →
    way_of c.view ≡ Show v → ((IsUnread c.view → ⊥) → IsBytes bytes) → IsStart c bytes s → Tells (task_for c (Show v)) s (done text) → Means c bytes v text
meant words c v bytes s text is made fits from told =
    let w = walk_for (task_for c (Show v)) s in
    let standard : IsStandardWalk s.presentation c.entries c.limit w = walk_standard words c (Show v) bytes s is fits from in
    record {
      start = s;
      read = from;
      table = w.stage.table;
      standard = table_at s.presentation w.stage.table w.stage.table.weight c.limit (standard.whole (shown_through c v s told.0)) standard.table;
      sections = w.stage.sections;
      accepted = standard.accepted;
      shows = texts_show v c.entries s.presentation w.stage.table w.stage.sections text (start_sound c bytes fits is.most s from) (record {
        standard = standard.table;
        raised = standard.raised;
        shape = standard.shape;
        of_weights = standard.sections;
        accepted = standard.accepted;
      }) (subst (λ (w : Way). IsServed w s.presentation.field) made (start_served c bytes s from)) told.1;
    }

-- a reply with a text
fault_not_done : (f : Fault) → fault_status f ≡ Done → ⊥
fault_not_done (too_many w n) e = cc
fault_not_done (bad_bytes b) e = cc
fault_not_done (bad_section w spot why) e = cc
fault_not_done (overflow w u) e = cc

view_fault_not_done : (f : ViewFault) → view_fault_status f ≡ Done → ⊥
view_fault_not_done (view.Overflow u) e = cc
view_fault_not_done (view.TooManyWords w n) e = cc

done_text : (r : Reply) → status_of r ≡ Done → r ≡ done (text_of r)
done_text (done text) e = refl
done_text usage e = cc
done_text (refused place reason) e = cc
done_text (unsupported name) e = cc
done_text (stopped text fault) e = absurd (fault_not_done fault e)
done_text (failed_in_view fault) e = absurd (view_fault_not_done fault e)
done_text no_memory e = cc
done_text read_fault e = cc
done_text write_fault e = cc

abbrev Meaning : List (List ℕ) → Option (List ℕ) → Option (List ℕ) → List ℕ → Type 0
Meaning words oo on bytes =
    (c : Command) (v : Shown) → IsCommand words c → way_of c.view ≡ Show v → (text : List ℕ) × Takes oo on text × Means c bytes v text

start_of_answer : (words : List (List ℕ)) (c : Command) (v : Shown) (bytes text : List ℕ) → IsCommand words c → way_of c.view ≡ Show v →
    ((IsUnread c.view → ⊥) → IsBytes bytes) → Answers words bytes (done text) →
    Means c bytes v text
start_of_answer words c v bytes text is made fits a = found (started c bytes (done text) (shown_plain c v made) tt (of_words words bytes c is (done text) a))
  where
    found : (s : Start) × IsStart c bytes s → Means c bytes v text
    found s = meant words c v bytes s.0 text is made fits s.1 (reply_tells words c (Show v) bytes s.0 (done text) is made s.1 a)

-- words of a view that reads
pub not_silent : (words : List (List ℕ)) (c : Command) → IsCommand words c → (IsUnread c.view → ⊥) → ReadsNothing words → ⊥
not_silent words c is reads (inl none) = none c is
not_silent words c is reads (inr d) = reads (subst (λ (x : Command). IsUnread x.view) (one_command words d.0 c d.1 is) d.2)

-- a text that was written is that of a reply
done_shows : (words : List (List ℕ)) (oo on : Option (List ℕ)) (bytes : List ℕ) (P : List ℕ → Type 0) →
    ((text : List ℕ) → Answers words bytes (done text) → P text) → (r : Reply) → Leaves (Answers words bytes) (Fronts words bytes) oo on r →
    status_of r ≡ Done → (text : List ℕ) × Takes oo on text × P text
done_shows words oo on bytes P f _ (whole r text a t) e =
    let x = with_text text r in
    let same : x ≡ done (text_of x) = done_text x (status_shown text r ∙ e) in
    (text_of x, t, f (text_of x) (subst (Answers words bytes) same a))
done_shows words oo on bytes P f _ (part r a put t) e = cc
done_shows words oo on bytes P f _ (front h) e = cc

pub reply_shows : (words : List (List ℕ)) (oo on : Option (List ℕ)) (bytes : List ℕ) (P : List ℕ → Type 0) →
    ((text : List ℕ) → Answers words bytes (done text) → P text) → (r : Reply) →
    (r ≡ read_fault) ⊎ Leaves (Answers words bytes) (Fronts words bytes) oo on r → status_of r ≡ Done → (text : List ℕ) × Takes oo on text × P text
reply_shows words oo on bytes P f r (inl k) e = let no : read_fault ≡ done (text_of r) = sym k ∙ done_text r e in cc
reply_shows words oo on bytes P f r (inr h) e = done_shows words oo on bytes P f r h e

reply_means : (words : List (List ℕ)) (oo on : Option (List ℕ)) (bytes : List ℕ) (r : Reply) → status_of r ≡ Done →
    ((ReadsNothing words → ⊥) → IsBytes bytes) →
    (r ≡ read_fault) ⊎ Leaves (Answers words bytes) (Fronts words bytes) oo on r → Meaning words oo on bytes
reply_means words oo on bytes r e fits h = λ c v is made.
    reply_shows words oo on bytes (Means c bytes v)
    (λ text a. start_of_answer words c v bytes text is made (λ reads. fits (not_silent words c is reads)) a) r h e

pub means : (words : List (List ℕ)) (left oo on : Option (List ℕ)) (r : Reply) →
    (status_of r ≡ Done → (ReadsNothing words → ⊥) → IfSome left IsBytes) →
    IfTold (ReadsNothing words) left (λ bytes. (r ≡ read_fault) ⊎ Leaves (Answers words bytes) (Fronts words bytes) oo on r) →
    status_of r ≡ Done → IfTold (ReadsNothing words) left (Meaning words oo on)
means words None oo on r fits h e = (tt, λ silent. reply_means words oo on [] r e (λ reads. no_bytes) (h.1 silent))
means words (Some bytes) oo on r fits h e =
    (reply_means words oo on bytes r e (fits e) h.0, λ silent. reply_means words oo on [] r e (λ reads. no_bytes) (h.1 silent))
