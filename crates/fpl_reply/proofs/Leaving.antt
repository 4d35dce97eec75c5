-- What a run leaves, told of more, and what it comes to.
use Rattle.std.proofs.Common.{◌≡◌, ℕ, ◌⊎◌, inl, inr, List, [], None, Some, Ok, Err, refl, sym, ap, ◌∙◌, subst}
use Rattle.std.specs.Prelude.{OnOk, OnErr}
use Rattle.std.specs.declared.option.Option.{Option}
use Rattle.std.specs.declared.result.Result.{Result}
use Rattle.std.proofs.lemmas.List.{append-nil}
use Rattle.fpl_outside.specs.Outside.{Rose, Takes}
use Rattle.fpl_outside.specs.Whole.{WrotePrefix}
use Rattle.fpl_outside.proofs.Pieces.{takes_nothing}
use Rattle.fpl_walk.specs.Walk.{Fault, too_many, bad_bytes, bad_section, overflow}
use Rattle.fpl_reply.specs.declared.view_fault.ViewFault.{ViewFault}
use Rattle.fpl_reply.specs.declared.view_fault.ViewFault.TheVariants as view
use Rattle.fpl_reply.specs.declared.status.Status.{Status}
use Rattle.fpl_reply.specs.declared.status.Status.TheVariants.{Usage, NoMemory, ReadFault, WriteFault}
use Rattle.fpl_reply.specs.Reply.{Reply, done, usage, refused, unsupported, stopped, failed_in_view, no_memory, read_fault, write_fault, fault_status, view_fault_status, status_of, text_of, with_text, line_of}
use Rattle.fpl_reply.specs.Leaves.{Says, Leaves}
use Rattle.fpl_reply.specs.Leaves.Leaves.{whole, part, front}

-- what is left of replies and fronts, told of others
pub leaves_through : (A B : Reply → Type 0) (F G : List ℕ → Type 0) (a b : Option (List ℕ)) → ((r : Reply) → A r → B r) →
    ((text : List ℕ) → F text → G text) → (r : Reply) → Leaves A F a b r → Leaves B G a b r
leaves_through A B F G a b f g _ (whole r text h t) = whole r text (f (with_text text r) h) t
leaves_through A B F G a b f g _ (part r h p t) = part r (f r h) p t
leaves_through A B F G a b f g _ (front (inl e)) = front (inl e)
leaves_through A B F G a b f g _ (front (inr h)) = front (inr (h.0, g h.0 h.1, h.2))

-- a reply without a text
pub leaves_quiet : (A : Reply → Type 0) (F : List ℕ → Type 0) (a b : Option (List ℕ)) (r : Reply) → with_text [] r ≡ r → text_of r ≡ [] → b ≡ a →
    A r → Leaves A F a b r
leaves_quiet A F a b r same none e h =
    whole r [] (subst A (sym same) h) (subst (λ t. Takes a b t) (sym (ap text_of same ∙ none)) (subst (λ o. Takes a o []) (sym e) (takes_nothing a)))

-- nothing was taken
pub none_taken : (a b : Option (List ℕ)) → Takes a b [] → b ≡ a
none_taken None b t = t
none_taken (Some xs) b t = t ∙ ap Some (append-nil xs)

pub status_shown : (t : List ℕ) (r : Reply) → status_of (with_text t r) ≡ status_of r
status_shown t (done u) = refl
status_shown t usage = refl
status_shown t (refused place reason) = refl
status_shown t (unsupported name) = refl
status_shown t (stopped u fault) = refl
status_shown t (failed_in_view fault) = refl
status_shown t no_memory = refl
status_shown t read_fault = refl
status_shown t write_fault = refl

-- a status of what stops a run, or the text of its view
abbrev pub IsInner : Status → Type 0
IsInner s = (s ≡ ReadFault → ⊥) × (s ≡ Usage → ⊥) × (s ≡ WriteFault → ⊥) × (s ≡ NoMemory → ⊥)

pub fault_inner : (f : Fault) → IsInner (fault_status f)
fault_inner (too_many w n) = (λ e. cc, λ e. cc, λ e. cc, λ e. cc)
fault_inner (bad_bytes b) = (λ e. cc, λ e. cc, λ e. cc, λ e. cc)
fault_inner (bad_section w spot why) = (λ e. cc, λ e. cc, λ e. cc, λ e. cc)
fault_inner (overflow w u) = (λ e. cc, λ e. cc, λ e. cc, λ e. cc)

pub view_fault_inner : (f : ViewFault) → IsInner (view_fault_status f)
view_fault_inner (view.Overflow u) = (λ e. cc, λ e. cc, λ e. cc, λ e. cc)
view_fault_inner (view.TooManyWords w n) = (λ e. cc, λ e. cc, λ e. cc, λ e. cc)

pub says : {T E : Type 0} (r : Result T E) (old new : Option (List ℕ)) (before now : ℕ) (line : List ℕ) → OnOk r (Takes old new line) →
    OnErr r (WrotePrefix old new line) → OnErr r (Rose before now) → Says old new before now line
says (Ok x) old new before now line t p f = inl t
says (Err e) old new before now line t p f = inr (f, p)
