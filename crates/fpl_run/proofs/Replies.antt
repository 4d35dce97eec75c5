-- From the reply to a part of the input to that of the whole, and to what a run did.
use Rattle.std.proofs.Common.{◌≡◌, ℕ, ◌<◌, ◌+◌, ◌⊎◌, inl, inr, List, [], ◌++◌, length, length-append, refl, sym, ap, ◌∙◌, subst, arith, None, Some}
use Rattle.std.specs.Prelude.{IfSome}
use Rattle.std.specs.declared.option.Option.{Option}
use Rattle.std.specs.Io.KnownBytes.{IsAtEnd}
use Rattle.std.proofs.lemmas.List.{append-nil}
use Rattle.fpl_model.specs.declared.presentation.Presentation.{Presentation}
use Rattle.fpl_outside.specs.Outside.{Gives, Takes}
use Rattle.fpl_outside.specs.Whole.{PassedMax}
use Rattle.fpl_walk.specs.Walk.{Fault, too_many, bad_bytes, bad_section, overflow}
use Rattle.fpl_reply.specs.declared.status.Status.TheVariants.{Usage, ReadFault}
use Rattle.fpl_reply.specs.Reply.{Reply, read_fault, fault_status, status_of, text_of, with_text, line_of}
use Rattle.fpl_reply.specs.Leaves.{Says, Leaves, IsAnswered}
use Rattle.fpl_reply.specs.Leaves.Leaves.{whole, part, front}
use Rattle.fpl_reply.proofs.Leaving.{leaves_through, none_taken, status_shown, IsInner, fault_inner, view_fault_inner}
use Rattle.fpl_views.specs.declared.shown.Shown.TheVariants.{Sample}
use Rattle.fpl_run.specs.declared.words.View.{View}
use Rattle.fpl_run.specs.declared.words.Command.{Command}
use Rattle.fpl_run.specs.declared.task.Way.{Way}
use Rattle.fpl_run.specs.declared.task.Way.TheVariants.{Show, Write, Check, Rank, Prove}
use Rattle.fpl_run.specs.declared.task.Task.{Task}
use Rattle.fpl_run.specs.Words.{IsCommand}
use Rattle.fpl_run.specs.Task.{way_of, task_for}
use Rattle.fpl_run.specs.Start.{Start}
use Rattle.fpl_run.specs.Read.{IsUnread, PresentsNone, IsNotMapped, IsStart, IsNoStart}
use Rattle.fpl_run.specs.Read.PresentsNone.{input_too_long, text_too_long, no_presentation, no_head}
use Rattle.fpl_run.specs.Read.IsNotMapped.{no_matrices, map_fails, relation_breaks}
use Rattle.fpl_run.specs.Read.IsNoStart.{nothing_presented, unserved, not_mapped}
use Rattle.fpl_run.specs.Answer.{AnswersTask, AnswersStart, AnswersCommand, Answers, IsFront, FrontsStart, FrontsCommand, Fronts}
use Rattle.fpl_run.specs.Answer.AnswersTask.{stopped_at, fails_in_view, shown}
use Rattle.fpl_run.specs.Answer.AnswersCommand.{no_start, start}
use Rattle.fpl_run.specs.Answer.Answers.{command}
use Rattle.fpl_run.specs.Run.{ReadsNothing, IfTold, IsWritten, MayPut}

pub always : {A : Type 0} (o : Option A) (P : A → Type 0) → ((x : A) → P x) → IfSome o P
always None P f = tt
always (Some x) P f = f x

-- an input that was read to its end held what was read
pub whole_input : (old new : Option (List ℕ)) (bytes : List ℕ) (P : List ℕ → Type 0) → Gives old new bytes → IsAtEnd new → P bytes → IfSome old P
whole_input None new bytes P g e p = tt
whole_input (Some bs) None bytes P g e p = cc
whole_input (Some bs) (Some rest) bytes P g e p =
    let same : Some bs ≡ Some (bytes ++ rest) = g in
    let all : bs ≡ bytes ++ rest = cc in
    let whole : bs ≡ bytes = rw (all, e) (append-nil bytes) in
    subst P (sym whole) p

pub passed_input : (old new : Option (List ℕ)) (max : ℕ) (P : List ℕ → Type 0) → PassedMax old new max → ((bs : List ℕ) → max < length bs → P bs) → IfSome old P
passed_input None new max P h f = tt
passed_input (Some bs) None max P h f = let no : Some bs ≡ None = h.gives in cc
passed_input (Some bs) (Some rest) max P h f =
    let same : Some bs ≡ Some (h.front ++ h.piece ++ rest) = h.gives in
    let all : bs ≡ h.front ++ h.piece ++ rest = cc in
    let passed : max < length h.front + length h.piece = h.passed in
    f bs (rw all (omega (arith, length-append (h.front ++ h.piece) rest, length-append h.front h.piece, passed)))

-- a task, told by its command
pub start_through : (c : Command) (s : Start) (way : Way) → way_of c.view ≡ way → (a b : Option (List ℕ)) (r : Reply) →
    Leaves (AnswersTask (task_for c way) s) (IsFront (task_for c way) s) a b r → Leaves (AnswersStart c s) (FrontsStart c s) a b r
start_through c s way is a b r h = subst (λ (w : Way). Leaves (AnswersTask (task_for c w) s) (IsFront (task_for c w) s) a b r) (sym is) h

-- what was read, told by its bytes
pub command_through : (c : Command) (bytes : List ℕ) (s : Start) → IsStart c bytes s → (a b : Option (List ℕ)) (r : Reply) →
    Leaves (AnswersStart c s) (FrontsStart c s) a b r → Leaves (AnswersCommand c bytes) (FrontsCommand c bytes) a b r
command_through c bytes s is a b r h =
    leaves_through (AnswersStart c s) (AnswersCommand c bytes) (FrontsStart c s) (FrontsCommand c bytes) a b (λ x k. start s is x k)
    (λ text f. (s, is, f)) r h

-- no reply to what is read of an input
module _ (c : Command) (bytes : List ℕ) where
  task_inner : (t : Task) (s : Start) (r : Reply) → AnswersTask t s r → IsInner (status_of r)
  task_inner t s _ (stopped_at f e) = fault_inner f
  task_inner t s _ (fails_in_view come f e) = view_fault_inner f
  task_inner t s _ (shown come text e) = (λ e. cc, λ e. cc, λ e. cc, λ e. cc)

  start_inner : (s : Start) (r : Reply) → AnswersStart c s r → IsInner (status_of r)
  start_inner s r a = task_inner (task_for c (way_of c.view)) s r a

  none_presented_inner : (r : Reply) → PresentsNone c bytes r → IsInner (status_of r)
  none_presented_inner _ (input_too_long l) = (λ e. cc, λ e. cc, λ e. cc, λ e. cc)
  none_presented_inner _ (text_too_long l m k) = (λ e. cc, λ e. cc, λ e. cc, λ e. cc)
  none_presented_inner _ (no_presentation l m x f place reason k) = (λ e. cc, λ e. cc, λ e. cc, λ e. cc)
  none_presented_inner _ (no_head l m b k) = fault_inner (bad_bytes b)

  not_mapped_inner : (limit : ℕ) (p : Presentation) (r : Reply) → IsNotMapped limit bytes p r → IsInner (status_of r)
  not_mapped_inner limit p _ (no_matrices none) = (λ e. cc, λ e. cc, λ e. cc, λ e. cc)
  not_mapped_inner limit p _ (map_fails at first x fails place why k) = (λ e. cc, λ e. cc, λ e. cc, λ e. cc)
  not_mapped_inner limit p _ (relation_breaks a given k breaks) = (λ e. cc, λ e. cc, λ e. cc, λ e. cc)

  no_start_inner : (r : Reply) → IsNoStart c bytes r → IsInner (status_of r)
  no_start_inner _ (nothing_presented r h) = none_presented_inner r h
  no_start_inner _ (unserved s h over rational) = (λ e. cc, λ e. cc, λ e. cc, λ e. cc)
  no_start_inner _ (not_mapped s h sv made r i) = not_mapped_inner c.limit s.presentation r i

  pub command_inner : (r : Reply) → AnswersCommand c bytes r → IsInner (status_of r)
  command_inner _ (no_start u r h) = no_start_inner r h
  command_inner _ (start s is r h) = start_inner s r h

  pub ended_inner : (F : List ℕ → Type 0) (oo on : Option (List ℕ)) (r : Reply) → Leaves (AnswersCommand c bytes) F oo on r →
      (status_of r ≡ ReadFault → ⊥) × (status_of r ≡ Usage → ⊥)
  ended_inner F oo on _ (whole r text h t) =
      let inner : IsInner (status_of r) = subst IsInner (status_shown text r) (command_inner (with_text text r) h) in
      (inner.0, inner.1)
  ended_inner F oo on _ (part r h p t) = (λ e. cc, λ e. cc)
  ended_inner F oo on _ (front h) = (λ e. cc, λ e. cc)

  fault_may_put : (v : View) (f : Fault) → IsWritten v → MayPut v (fault_status f)
  fault_may_put v (too_many w n) e = e
  fault_may_put v (bad_bytes b) e = e
  fault_may_put v (bad_section w spot why) e = e
  fault_may_put v (overflow w u) e = e

  -- where nothing may be put, there is no text
  task_quiet : (s : Start) (way : Way) → way_of c.view ≡ way → (r : Reply) → AnswersTask (task_for c way) s r →
      (MayPut c.view (status_of r) → ⊥) → text_of r ≡ []
  task_quiet s (Show v) is _ (stopped_at f e) never = refl
  task_quiet s Write is _ (stopped_at f e) never = absurd (never (fault_may_put c.view f is))
  task_quiet s Check is _ (stopped_at f e) never = refl
  task_quiet s Rank is _ (stopped_at f e) never = refl
  task_quiet s Prove is _ (stopped_at f e) never = refl
  task_quiet s way is _ (fails_in_view come f e) never = refl
  task_quiet s way is _ (shown come text e) never = absurd (never tt)

  start_quiet : (s : Start) (r : Reply) → AnswersStart c s r → (MayPut c.view (status_of r) → ⊥) → text_of r ≡ []
  start_quiet s r a never = task_quiet s (way_of c.view) refl r a never

  none_presented_quiet : (r : Reply) → PresentsNone c bytes r → text_of r ≡ []
  none_presented_quiet _ (input_too_long l) = refl
  none_presented_quiet _ (text_too_long l m k) = refl
  none_presented_quiet _ (no_presentation l m x f place reason k) = refl
  none_presented_quiet _ (no_head l m b k) = refl

  not_mapped_quiet : (limit : ℕ) (p : Presentation) (r : Reply) → IsNotMapped limit bytes p r → (MayPut c.view (status_of r) → ⊥) → text_of r ≡ []
  not_mapped_quiet limit p _ (no_matrices none) never = refl
  not_mapped_quiet limit p _ (map_fails at first x fails place why k) never = refl
  not_mapped_quiet limit p _ (relation_breaks a given k breaks) never = absurd (never tt)

  no_start_quiet : (r : Reply) → IsNoStart c bytes r → (MayPut c.view (status_of r) → ⊥) → text_of r ≡ []
  no_start_quiet _ (nothing_presented r h) never = none_presented_quiet r h
  no_start_quiet _ (unserved s h over rational) never = refl
  no_start_quiet _ (not_mapped s h sv made r i) never = not_mapped_quiet c.limit s.presentation r i never

  command_quiet : (r : Reply) → AnswersCommand c bytes r → (MayPut c.view (status_of r) → ⊥) → text_of r ≡ []
  command_quiet _ (no_start u r h) never = no_start_quiet r h never
  command_quiet _ (start s is r h) never = start_quiet s r h never

  pub quiet_output : (oo on : Option (List ℕ)) (r : Reply) → Leaves (AnswersCommand c bytes) (FrontsCommand c bytes) oo on r →
      (MayPut c.view (status_of r) → ⊥) → on ≡ oo
  quiet_output oo on _ (whole r text h t) never =
      let none : text_of (with_text text r) ≡ [] = command_quiet (with_text text r) h (λ m. never (subst (MayPut c.view) (status_shown text r) m)) in
      none_taken oo on (subst (λ x. Takes oo on x) none t)
  quiet_output oo on _ (part r h p t) never = absurd (never tt)
  quiet_output oo on _ (front (inl e)) never = e
  quiet_output oo on _ (front (inr h)) never =
      absurd (never h.1.2.0)

-- what is told of an input, told of more
pub told_more : {M N : Type 0} (left : Option (List ℕ)) (P Q : List ℕ → Type 0) → (M → N) → ((bytes : List ℕ) → P bytes → Q bytes) →
    IfTold N left P → IfTold M left Q
told_more None P Q f g h = (tt, λ silent. g [] (h.1 (f silent)))
told_more (Some bytes) P Q f g h = (g bytes h.0, λ silent. g [] (h.1 (f silent)))

pub told_always : {N : Type 0} (left : Option (List ℕ)) (P : List ℕ → Type 0) → ((bytes : List ℕ) → P bytes) → IfTold N left P
told_always left P f = (always left P f, λ silent. f [])

-- a view that writes its sections reads its input
pub written_reads : (c : Command) → way_of c.view ≡ Write → IsUnread c.view → ⊥
written_reads c made unread = let no : Write ≡ Show Sample = sym made ∙ ap way_of unread in cc

-- and one that takes matrices
pub ranked_reads : (c : Command) → way_of c.view ≡ Rank → IsUnread c.view → ⊥
ranked_reads c made unread = let no : Rank ≡ Show Sample = sym made ∙ ap way_of unread in cc

-- words of a view that reads nothing
pub silent_view : (words : List (List ℕ)) (c : Command) → IsCommand words c → ((d : Command) → IsCommand words d → d ≡ c) → ReadsNothing words → IsUnread c.view
silent_view words c is one (inl none) = absurd (none c is)
silent_view words c is one (inr d) = subst (λ (x : Command). IsUnread x.view) (one d.0 d.1) d.2

pub command_reply : (words : List (List ℕ)) (c : Command) → IsCommand words c → ((d : Command) → IsCommand words d → d ≡ c) →
    (left oo on : Option (List ℕ)) (r : Reply) →
    IfTold (IsUnread c.view) left (λ bytes. (r ≡ read_fault) ⊎ Leaves (AnswersCommand c bytes) (FrontsCommand c bytes) oo on r) →
    IfTold (ReadsNothing words) left (λ bytes. (r ≡ read_fault) ⊎ Leaves (Answers words bytes) (Fronts words bytes) oo on r)
command_reply words c is one left oo on r h =
    told_more left (λ bytes. (r ≡ read_fault) ⊎ Leaves (AnswersCommand c bytes) (FrontsCommand c bytes) oo on r)
    (λ bytes. (r ≡ read_fault) ⊎ Leaves (Answers words bytes) (Fronts words bytes) oo on r) (silent_view words c is one) at h
  where
    at : (bytes : List ℕ) → (r ≡ read_fault) ⊎ Leaves (AnswersCommand c bytes) (FrontsCommand c bytes) oo on r →
        (r ≡ read_fault) ⊎ Leaves (Answers words bytes) (Fronts words bytes) oo on r
    at bytes (inl e) = inl e
    at bytes (inr k) =
        inr (leaves_through (AnswersCommand c bytes) (Answers words bytes) (FrontsCommand c bytes) (Fronts words bytes) oo on
        (λ x a. command c is x a) (λ text f. (c, is, f)) r k)

pub answered : (words : List (List ℕ)) (left oo on eo en : Option (List ℕ)) (before now : ℕ) (r : Reply) →
    IfTold (ReadsNothing words) left (λ bytes. (r ≡ read_fault) ⊎ Leaves (Answers words bytes) (Fronts words bytes) oo on r) →
    Says eo en before now (line_of r) →
    IfTold (ReadsNothing words) left (λ bytes. IsAnswered (Answers words bytes) (Fronts words bytes) (status_of r) oo on eo en before now)
answered words left oo on eo en before now r h l =
    told_more left (λ bytes. (r ≡ read_fault) ⊎ Leaves (Answers words bytes) (Fronts words bytes) oo on r)
    (λ bytes. IsAnswered (Answers words bytes) (Fronts words bytes) (status_of r) oo on eo en before now) (λ silent. silent)
    (λ bytes k. record { reply = r; status = refl; leaves = k; line = l }) h
