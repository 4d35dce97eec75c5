-- A checkpoint of a presentation's own has the reply of the presentation, and passes a check.
use Rattle.std.proofs.Common.{◌≡◌, ℕ, zero, suc, ◌≤◌, ◌⊎◌, inl, inr, List, ◌∷◌, take, Bool, true, false, Ok, Err, Some, refl, sym, ap, ◌∙◌, subst, arith}
use mathlib.Core.Path.{ap₂}
use Rattle.std.specs.declared.result.Result.{Result}
use Rattle.fpl_numbers.specs.declared.number.Kind.TheVariants.{Rational}
use Rattle.fpl_log.specs.declared.section.Section.{Section}
use Rattle.fpl_model.specs.declared.presentation.Presentation.{Presentation}
use Rattle.fpl_table.specs.Plain.{PlainTable}
use Rattle.fpl_checkpoint.specs.declared.head.Head.{Head}
use Rattle.fpl_checkpoint.specs.Scans.{HasHead}
use Rattle.fpl_checkpoint.proofs.OneHead.{not_bad}
use Rattle.fpl_walk.specs.Walk.{Stage, Fault, failed, too_many, bad_bytes, bad_section, overflow, begun, walk_of}
use Rattle.plain_streams.specs.Streams.{IsStreamOf, nothing}
use Rattle.plain_streams.specs.Laws.{GiveSame, PassesWith, walk_from}
use Rattle.plain_streams.proofs.Heads.{have_heads, heads_are_of, own_streams_give, own_streams_pass}
use Rattle.fpl_reply.specs.declared.status.Status.TheVariants.{Done, Limit}
use Rattle.fpl_reply.specs.declared.view_fault.ViewFault.{ViewFault}
use Rattle.fpl_reply.specs.Reply.{Reply, unsupported, stopped, fault_status, status_of}
use Rattle.fpl_views.specs.Views.{text_of_view}
use Rattle.fpl_run.specs.declared.words.Command.{Command}
use Rattle.fpl_run.specs.declared.task.Way.{Way}
use Rattle.fpl_run.specs.declared.task.Way.TheVariants.{Show, Write, Check, Rank, Prove}
use Rattle.fpl_run.specs.declared.task.Task.{Task}
use Rattle.fpl_run.specs.Words.{view_name}
use Rattle.fpl_run.specs.Task.{way_of, task_for, does_compute, IsOverPrimes, IsServed}
use Rattle.fpl_run.specs.Start.{Start, of_text, of_head, walk_for, HasCome}
use Rattle.fpl_run.specs.Read.{IsUnread, IsMarked, IsCheckpoint, Presents, PresentsNone, IsStart, IsNoStart}
use Rattle.fpl_checkpoint.specs.Heads.{checkpoint_mark}
use Rattle.fpl_run.specs.Read.Presents.{from_text, from_head, built_in}
use Rattle.fpl_run.specs.Read.PresentsNone.{input_too_long, text_too_long, no_presentation, no_head}
use Rattle.fpl_run.specs.Read.IsStart.{plain, with_map}
use Rattle.fpl_run.specs.Read.IsNoStart.{nothing_presented, unserved, not_mapped}
use Rattle.fpl_run.specs.Stream.{stream_text}
use Rattle.fpl_run.specs.Answer.{AnswersTask, AnswersStart, AnswersCommand, GivesProofs, Gives, written_before}
use Rattle.fpl_run.specs.Answer.AnswersTask.{stopped_at, fails_in_view, shown}
use Rattle.fpl_run.specs.Answer.AnswersCommand.{no_start, start}
use Rattle.fpl_run.specs.Laws.{IsCheckpointOf, OwnCheckpoints}
use Rattle.fpl_run.proofs.Names.{command_in_range}
use Rattle.fpl_run.proofs.OneReply.{of_words, built_task}

computes : (way : Way) → (way ≡ Check → ⊥) → does_compute way ≡ true
computes (Show v) other = refl
computes Write other = refl
computes Check other = absurd (other refl)
computes Rank other = refl
computes Prove other = refl

-- what a view that computes gives is told by the table and its sections, whatever was stored
gives_same : (way : Way) → does_compute way ≡ true → (way ≡ Rank → ⊥) → (s t : Start) (task : Task) (g h : Stage) → s.presentation ≡ t.presentation →
    g.table ≡ h.table → g.sections ≡ h.sections → (r : Result (List ℕ) ViewFault) → Gives way s task g r → Gives way t task h r
gives_same (Show v) c whole s t task g h p e f r k =
    sym (ap (λ (x : Presentation). text_of_view v task.entries x g.table g.sections) p
    ∙ ap (λ (x : PlainTable). text_of_view v task.entries t.presentation x g.sections) e
    ∙ ap (λ (x : List Section). text_of_view v task.entries t.presentation h.table x) f) ∙ k
gives_same Write c whole s t task g h p e f r k = sym (ap₂ (λ x y. Ok (stream_text x y)) p f) ∙ k
gives_same Check c whole s t task g h p e f r k = cc
gives_same Rank c whole s t task g h p e f r k = absurd (whole refl)
gives_same Prove c whole s t task g h p e f r k =
    subst (λ (x : PlainTable). GivesProofs t.presentation x r) e (subst (λ (x : Presentation). GivesProofs x g.table r) p k)

passing_fault : (f : Fault) → PassesWith (Some (failed f)) → fault_status f ≡ Limit
passing_fault (too_many w n) h = refl
passing_fault (bad_bytes b) h = absurd h
passing_fault (bad_section w spot why) h = absurd h
passing_fault (overflow w u) h = absurd h

-- a stream has a head, and so begins with the mark
marked_front : (n end : ℕ) (rest : List ℕ) → suc n ≤ end → IsMarked (take end (checkpoint_mark ∷ rest))
marked_front n zero rest l = absurd (omega (arith, l))
marked_front n (suc k) rest l = (omega arith, refl)

stream_marked : (p : Presentation) (bytes : List ℕ) → IsStreamOf p bytes → IsMarked bytes
stream_marked p bytes stream = subst IsMarked (sym stream.front) (marked_front _ stream.end _ stream.head)

module _ (c : Command) (p : Presentation) (bytes : List ℕ) (own : IsCheckpointOf p bytes) (reads : IsUnread c.view → ⊥)
    (plain_view : way_of c.view ≡ Rank → ⊥) (range : (c.limit ≤ 1000) × (c.entries ≤ 2000000)) where
  held : (h : Head) → HasHead bytes h → h.presentation ≡ p
  held h has = heads_are_of p bytes h own.1 has

  module _ (way : Way) (goes : does_compute way ≡ true) (other : way ≡ Rank → ⊥) (h : Head) (has : HasHead bytes h) where
    abbrev t : Task
    t = task_for c way

    same_walks : GiveSame (walk_for t (of_head bytes h)) (walk_for t (of_text p))
    same_walks =
        subst (λ (b : Bool). GiveSame (walk_from b c.entries bytes h c.limit) (walk_of b c.entries p nothing c.limit (begun p 0 false))) (sym goes)
        (own_streams_give p bytes h c.entries c.limit own.1 has range.1 range.0)

    come_too : HasCome t (of_head bytes h) → HasCome t (of_text p)
    come_too (inl e) = inl (sym same_walks.stop ∙ e)
    come_too (inr e) = inr (sym same_walks.stop ∙ e)

    gives_too : (r : Result (List ℕ) ViewFault) → Gives way (of_head bytes h) t (walk_for t (of_head bytes h)).stage r →
        Gives way (of_text p) t (walk_for t (of_text p)).stage r
    gives_too = gives_same way goes other (of_head bytes h) (of_text p) t (walk_for t (of_head bytes h)).stage (walk_for t (of_text p)).stage
        (held h has) same_walks.table same_walks.sections

    alone : (r : Reply) → AnswersTask t (of_head bytes h) r → AnswersTask t (of_text p) r
    alone _ (stopped_at f e) =
        subst (λ (x : List ℕ). AnswersTask t (of_text p) (stopped x f)) (ap₂ (written_before way) (sym (held h has)) (sym same_walks.sections))
        (stopped_at f (sym same_walks.stop ∙ e))
    alone _ (fails_in_view come f e) = fails_in_view (come_too come) f (gives_too (Err f) e)
    alone _ (shown come text e) = shown (come_too come) text (gives_too (Ok text) e)

  alone_start : (way_of c.view ≡ Check → ⊥) → (h : Head) → HasHead bytes h → (r : Reply) → AnswersStart c (of_head bytes h) r →
      AnswersStart c (of_text p) r
  alone_start other h has r a = alone (way_of c.view) (computes (way_of c.view) other) plain_view h has r a

  is_checkpoint : IsCheckpoint c bytes
  is_checkpoint = inr (stream_marked p bytes own.1, plain_view)

  -- it presents what its head has
  presented : (s : Start) → Presents c bytes s → (h : Head) × (HasHead bytes h × (s ≡ of_head bytes h))
  presented _ (from_text u l a x e q k) = absurd (a is_checkpoint)
  presented _ (from_head u l a h k) = (h, (k, refl))
  presented _ (built_in u) = absurd (reads u)

  head_start : (s : Start) → IsStart c bytes s → (h : Head) × (HasHead bytes h × (s ≡ of_head bytes h))
  head_start _ (plain s h sv n) = presented s h
  head_start _ (with_map s h sv made a i) = absurd (plain_view made)

  -- over the field of p
  field_of_start : (s : Start) → Presents c bytes s → s.presentation.field ≡ p.field
  field_of_start s h =
      let k = presented s h in
      ap (λ (x : Start). x.presentation.field) k.1.1 ∙ ap (λ (q : Presentation). q.field) (held k.0 k.1.0)

  no_refusal : (r : Reply) → PresentsNone c bytes r → ⊥
  no_refusal _ (input_too_long l) = omega (arith, l, own.0)
  no_refusal _ (text_too_long l a k) = a is_checkpoint
  no_refusal _ (no_presentation l a x e place reason k) = a is_checkpoint
  no_refusal _ (no_head l a b k) = let g = have_heads p bytes own.1 in not_bad bytes g.0 b g.1 k

  no_reply : IsServed (way_of c.view) p.field → (r : Reply) → IsNoStart c bytes r → ⊥
  no_reply served _ (nothing_presented r h) = no_refusal r h
  no_reply served _ (unserved s h over rational) = served over (sym (field_of_start s h) ∙ rational)
  no_reply served _ (not_mapped s h sv made r i) = plain_view made

  -- where the view doesn't work over it
  start_unserved : IsOverPrimes (way_of c.view) → p.field ≡ Rational → (s : Start) → IsStart c bytes s → ⊥
  start_unserved over rational _ (plain s h sv n) = sv over (field_of_start s h ∙ rational)
  start_unserved over rational _ (with_map s h sv made a i) = plain_view made

  none_unserved : IsOverPrimes (way_of c.view) → p.field ≡ Rational → (r : Reply) → IsNoStart c bytes r → r ≡ unsupported (view_name c.view)
  none_unserved over rational _ (nothing_presented r h) = absurd (no_refusal r h)
  none_unserved over rational _ (unserved s h also too) = refl
  none_unserved over rational _ (not_mapped s h sv made r i) = absurd (plain_view made)

  pub unserved_of : IsOverPrimes (way_of c.view) → p.field ≡ Rational → (r : Reply) → AnswersCommand c bytes r → r ≡ unsupported (view_name c.view)
  unserved_of over rational _ (no_start u r h) = none_unserved over rational r h
  unserved_of over rational _ (start s is r a) = absurd (start_unserved over rational s is)

  pub alone_of : (way_of c.view ≡ Check → ⊥) → IsServed (way_of c.view) p.field → (r : Reply) → AnswersCommand c bytes r → AnswersStart c (of_text p) r
  alone_of other served _ (no_start u r h) = absurd (no_reply served r h)
  alone_of other served _ (start s is r a) =
      let h = head_start s is in
      alone_start other h.0 h.1.0 r (subst (λ (x : Start). AnswersStart c x r) h.1.1 a)

  task_passes : (h : Head) → HasHead bytes h → (r : Reply) → AnswersTask (task_for c Check) (of_head bytes h) r → (status_of r ≡ Done) ⊎ (status_of r ≡ Limit)
  task_passes h has _ (stopped_at f e) =
      let pass : PassesWith (walk_from false c.entries bytes h c.limit).stop = own_streams_pass p bytes h c.entries c.limit own.1 has range.1 range.0 in
      let stop : (walk_from false c.entries bytes h c.limit).stop ≡ Some (failed f) = e in
      inr (passing_fault f (subst PassesWith stop pass))
  task_passes h has _ (fails_in_view come f e) = cc
  task_passes h has _ (shown come text e) = inl refl

  check_served : (q : Presentation) → way_of c.view ≡ Check → IsServed (way_of c.view) q.field
  check_served q e over = absurd (subst IsOverPrimes e over)

  pub command_passes : way_of c.view ≡ Check → (r : Reply) → AnswersCommand c bytes r → (status_of r ≡ Done) ⊎ (status_of r ≡ Limit)
  command_passes e _ (no_start u r h) = absurd (no_reply (check_served p e) r h)
  command_passes e _ (start s is r a) =
      let h = head_start s is in
      task_passes h.0 h.1.0 r (built_task c Check e (of_head bytes h.0) r (subst (λ (x : Start). AnswersStart c x r) h.1.1 a))

pub own_checkpoints : OwnCheckpoints
own_checkpoints words c p bytes r is reads other own a = record {
  checked = λ e. command_passes c p bytes own reads other (command_in_range words c is) e r (of_words words bytes c is r a);
  unserved = λ over rational. unserved_of c p bytes own reads other (command_in_range words c is) over rational r (of_words words bytes c is r a);
  answered = λ no_check served. alone_of c p bytes own reads other (command_in_range words c is) no_check served r (of_words words bytes c is r a);
}
