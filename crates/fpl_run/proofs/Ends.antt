-- The end of a walk, and the text that is made there.
use Rattle.std.proofs.Common.{◌≡◌, ℕ, ◌-◌, ◌⊎◌, inl, inr, List, [], length, Ok, Err, None, Some, refl, sym, ap, ◌∙◌, subst}
use Rattle.std.specs.Prelude.{IfOk, IfErr}
use Rattle.std.specs.declared.result.Result.{Result}
use Rattle.std.specs.declared.option.Option.{Option}
use Rattle.fpl_model.specs.declared.presentation.Presentation.{Presentation}
use Rattle.fpl_matrices.specs.Matrices.{Assigned}
use Rattle.fpl_walk.specs.Stops.{PlainRun, stored_in}
use Rattle.fpl_walk.specs.Walk.{Stage, ended, Walked, begun, walk_of, cost_of}
use Rattle.fpl_reply.specs.declared.view_fault.ViewFault.{ViewFault}
use Rattle.fpl_reply.specs.Reply.{Reply, done, stopped, failed_in_view, no_memory}
use Rattle.fpl_reply.specs.Leaves.{Leaves}
use Rattle.fpl_reply.specs.Leaves.Leaves.{front}
use Rattle.fpl_reply.proofs.Leaving.{leaves_through, leaves_quiet}
use Rattle.fpl_reasons.specs.Why.{IsWhyText}
use Rattle.fpl_views.specs.declared.shown.Shown.{Shown}
use Rattle.fpl_views.specs.Views.{text_of_view}
use Rattle.fpl_run.specs.declared.start.Begin.{Begin}
use Rattle.fpl_run.specs.declared.task.Way.{Way}
use Rattle.fpl_run.specs.declared.task.Way.TheVariants.{Show, Check, Rank, Prove}
use Rattle.fpl_run.specs.declared.task.Task.{Task}
use Rattle.fpl_run.specs.Task.{does_compute}
use Rattle.fpl_run.specs.CheckText.{check_text}
use Rattle.fpl_run.specs.Matrices.{text_of_ranks}
use Rattle.fpl_run.specs.Start.{Start, with_matrices, walk_for, HasCome, cost_for}
use Rattle.fpl_run.specs.Begin.{start_in, start_from, HasBegun, HasEnded, HasFailed, Stops}
use Rattle.fpl_run.specs.Begin.Stops.{out_of_memory, at_fault, in_view}
use Rattle.fpl_run.specs.Answer.{AnswersTask, IsFront, Gives, written_before}
use Rattle.fpl_run.specs.Answer.AnswersTask.{stopped_at, fails_in_view, shown}

pub at_ok : {X E : Type 0} (r : Result X E) (P : X → Type 0) (x : X) → r ≡ Ok x → IfOk r P → P x
at_ok (Ok y) P x e h = let same : y ≡ x = cc in subst P same h
at_ok (Err y) P x e h = cc

pub at_err : {X E : Type 0} (r : Result X E) (P : E → Type 0) (x : E) → r ≡ Err x → IfErr r P → P x
at_err (Ok y) P x e h = cc
at_err (Err y) P x e h = let same : y ≡ x = cc in subst P same h

pub err_weaker : {X E : Type 0} (r : Result X E) (P Q : E → Type 0) → ((x : E) → P x → Q x) → IfErr r P → IfErr r Q
err_weaker (Ok y) P Q f h = tt
err_weaker (Err y) P Q f h = f y h

-- a text that was put
pub whole_leaves : (t : Task) (s : Start) (a b : Option (List ℕ)) (r : Reply) (text : List ℕ) → AnswersTask t s (done text) →
    Leaves (λ reply. reply ≡ done text) (λ front. ⊥) a b r →
    Leaves (AnswersTask t s) (IsFront t s) a b r
whole_leaves t s a b r text h l =
    leaves_through (λ reply. reply ≡ done text) (AnswersTask t s) (λ front. ⊥) (IsFront t s) a b (λ x e. subst (AnswersTask t s) (sym e) h)
    (λ front k. absurd k) r l

-- what comes in place of a text
pub stops_leave : (t : Task) (s : Start) (a b : Option (List ℕ)) (r : Reply) → b ≡ a → Stops t s r → Leaves (AnswersTask t s) (IsFront t s) a b r
stops_leave t s a b _ e out_of_memory = front (inl e)
stops_leave t s a b _ e (at_fault f h) = leaves_quiet (AnswersTask t s) (IsFront t s) a b (stopped [] f) refl refl e h
stops_leave t s a b _ e (in_view f h) = leaves_quiet (AnswersTask t s) (IsFront t s) a b (failed_in_view f) refl refl e h

-- a walk that failed before its text is made
pub task_failed : (t : Task) (s : Start) (stage : Stage) (r : Reply) → written_before t.way s.presentation (walk_for t s).stage.sections ≡ [] →
    HasFailed stage (walk_for t s) r → Stops t s r
task_failed t s stage r quiet (inl e) = subst (λ x. Stops t s x) (sym e) out_of_memory
task_failed t s stage r quiet (inr k) =
    let answer : AnswersTask t s (stopped [] k.0) =
    subst (λ x. AnswersTask t s (stopped x k.0)) quiet (stopped_at k.0 (ap (λ (w : Walked). w.stop) k.1)) in
    subst (λ x. Stops t s x) (sym k.2) (at_fault k.0 answer)

-- the end of a walk
pub ended_stage : (stage : Stage) (w : Walked) → HasEnded stage w → w.stage ≡ stage
ended_stage stage w (inl e) = ap (λ (x : Walked). x.stage) e
ended_stage stage w (inr e) = ap (λ (x : Walked). x.stage) e

pub ended_stop : (stage : Stage) (w : Walked) → HasEnded stage w → (w.stop ≡ None) ⊎ (w.stop ≡ Some ended)
ended_stop stage w (inl e) = inl (ap (λ (x : Walked). x.stop) e)
ended_stop stage w (inr e) = inr (ap (λ (x : Walked). x.stop) e)

-- a run that has just begun
module _ (t : Task) (run : PlainRun) (bytes : List ℕ) (has_begun : HasBegun run) where
  abbrev s : Start
  s = start_from run bytes

  pub walk_begun : walk_for t (start_from run bytes) ≡ walk_of (does_compute t.way) t.entries run.presentation (stored_in run bytes) t.limit run.stage
  walk_begun = ap (λ (x : Stage). walk_of (does_compute t.way) t.entries run.presentation (stored_in run bytes) t.limit x) (sym has_begun)

  pub cost_begun : cost_for t (start_from run bytes) ≡ cost_of (does_compute t.way) t.entries run.presentation (stored_in run bytes) t.limit run.stage
  cost_begun = ap (λ (x : Stage). cost_of (does_compute t.way) t.entries run.presentation (stored_in run bytes) t.limit x) (sym has_begun)

  pub failed_begun : (stage : Stage) (r : Reply) → written_before t.way run.presentation (walk_for t (start_from run bytes)).stage.sections ≡ [] →
      HasFailed stage (walk_of (does_compute t.way) t.entries run.presentation (stored_in run bytes) t.limit run.stage) r →
      Stops t (start_from run bytes) r
  failed_begun stage r quiet h = task_failed t s stage r quiet (subst (λ (w : Walked). HasFailed stage w r) (sym walk_begun) h)

  pub failed_with : (a : Assigned) (stage : Stage) (r : Reply) →
      written_before t.way run.presentation (walk_for t (start_from run bytes)).stage.sections ≡ [] →
      HasFailed stage (walk_of (does_compute t.way) t.entries run.presentation (stored_in run bytes) t.limit run.stage) r →
      Stops t (with_matrices a (start_from run bytes)) r
  failed_with a stage r quiet h = task_failed t (with_matrices a s) stage r quiet (subst (λ (w : Walked). HasFailed stage w r) (sym walk_begun) h)

  module _ (new : PlainRun) (kept : new.presentation ≡ run.presentation)
      (whole : HasEnded new.stage (walk_of (does_compute t.way) t.entries run.presentation (stored_in run bytes) t.limit run.stage)) where
    over : HasEnded new.stage (walk_for t s)
    over = subst (λ (w : Walked). HasEnded new.stage w) (sym walk_begun) whole

    come : HasCome t s
    come = ended_stop new.stage (walk_for t s) over

    there : (x : Start) (way : Way) → t.way ≡ way → (r : Result (List ℕ) ViewFault) → Gives way x t new.stage r →
        Gives t.way x t (walk_for t (start_from run bytes)).stage r
    there x way is r k =
        subst (λ (g : Stage). Gives t.way x t g r) (sym (ended_stage new.stage (walk_for t s) over))
        (subst (λ (w : Way). Gives w x t new.stage r) (sym is) k)

    module _ (v : Shown) (way : t.way ≡ Show v) where
      text_there : (r : Result (List ℕ) ViewFault) → text_of_view v t.entries new.presentation new.stage.table new.stage.sections ≡ r →
          Gives t.way s t (walk_for t s).stage r
      text_there r e =
          there s (Show v) way r (ap (λ (p : Presentation). text_of_view v t.entries p new.stage.table new.stage.sections) (sym kept) ∙ e)

      pub show_text : (text : List ℕ) → text_of_view v t.entries new.presentation new.stage.table new.stage.sections ≡ Ok text →
          AnswersTask t (start_from run bytes) (done text)
      show_text text e = shown come text (text_there (Ok text) e)

      pub show_fault : (r : Reply) → (r ≡ no_memory) ⊎ ((f : ViewFault) × (r ≡ failed_in_view f) ×
          (text_of_view v t.entries new.presentation new.stage.table new.stage.sections ≡ Err f)) → Stops t (start_from run bytes) r
      show_fault r (inl e) = subst (λ x. Stops t s x) (sym e) out_of_memory
      show_fault r (inr h) = subst (λ x. Stops t s x) (sym h.1) (in_view h.0 (fails_in_view come h.0 (text_there (Err h.0) h.2)))

    module _ (a : Assigned) (way : t.way ≡ Rank) where
      rank_there : (r : Result (List ℕ) ViewFault) → text_of_ranks new.presentation a new.stage.table ≡ r →
          Gives t.way (with_matrices a s) t (walk_for t s).stage r
      rank_there r e =
          there (with_matrices a s) Rank way r (ap (λ (p : Presentation). text_of_ranks p a new.stage.table) (sym kept) ∙ e)

      pub rank_text : (text : List ℕ) → text_of_ranks new.presentation a new.stage.table ≡ Ok text →
          AnswersTask t (with_matrices a (start_from run bytes)) (done text)
      rank_text text e = shown come text (rank_there (Ok text) e)

      pub rank_fault : (r : Reply) → (r ≡ no_memory) ⊎ ((f : ViewFault) × (r ≡ failed_in_view f) ×
          (text_of_ranks new.presentation a new.stage.table ≡ Err f)) → Stops t (with_matrices a (start_from run bytes)) r
      rank_fault r (inl e) = subst (λ x. Stops t (with_matrices a s) x) (sym e) out_of_memory
      rank_fault r (inr h) =
          subst (λ x. Stops t (with_matrices a s) x) (sym h.1) (in_view h.0 (fails_in_view come h.0 (rank_there (Err h.0) h.2)))

    pub check_made : t.way ≡ Check → (text : List ℕ) →
        text ≡ check_text new.presentation.field t.limit new.stage.table.weight (length bytes - new.stage.place) →
        AnswersTask t (start_from run bytes) (done text)
    check_made way text e =
        let field : check_text run.presentation.field t.limit new.stage.table.weight (length bytes - new.stage.place) ≡ text =
        ap (λ (p : Presentation). check_text p.field t.limit new.stage.table.weight (length bytes - new.stage.place)) (sym kept) ∙ sym e in
        shown come text (there s Check way (Ok text) (ap Ok field))

    pub proofs_made : t.way ≡ Prove → (text : List ℕ) → IsWhyText new.presentation new.stage.table text → AnswersTask t (start_from run bytes) (done text)
    proofs_made way text h = shown come text (there s Prove way (Ok text) (subst (λ p. IsWhyText p new.stage.table text) kept h))

  pub none_made : (r : Reply) → r ≡ no_memory → Stops t (start_from run bytes) r
  none_made r e = subst (λ x. Stops t s x) (sym e) out_of_memory

-- what a run begins with
pub begun_start : {E : Type 0} (b : Begin) (bytes : List ℕ) (r : Result PlainRun E) →
    IfOk r (λ run. run ≡ record { presentation = b.presentation; version = b.version; stage = begun b.presentation b.place b.stored }) →
    IfOk r (λ run. start_from run bytes ≡ start_in b bytes)
begun_start b bytes (Ok run) h = ap (λ (x : PlainRun). start_from x bytes) h
begun_start b bytes (Err e) h = tt
