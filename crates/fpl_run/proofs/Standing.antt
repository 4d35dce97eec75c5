-- What the replies obey over the standard table.
use Rattle.std.proofs.Common.{◌≡◌, ℕ, ◌≤◌, List, true, Ok, None, Some, refl, sym, ap, ◌∙◌, subst}
use Rattle.std.specs.Prelude.{IfSome}
use Rattle.std.specs.declared.option.Option.{Option}
use Rattle.std.specs.declared.result.Result.{Result}
use Rattle.fpl_log.specs.declared.section.Section.{Section}
use Rattle.fpl_table.specs.Plain.{PlainTable}
use Rattle.fpl_model.specs.declared.presentation.Presentation.{Presentation}
use Rattle.fpl_walk.specs.Walk.{Fault, too_many, overflow, failed, begun, walk_of}
use Rattle.plain_walks.specs.Walks.{StopMeans}
use Rattle.plain_walks.proofs.Walking.{stops_mean}
use Rattle.plain_walks.proofs.StopsThere as there
use Rattle.fpl_reply.specs.declared.view_fault.ViewFault.{ViewFault}
use Rattle.fpl_reply.specs.Reply.{Reply, done, stopped}
use Rattle.fpl_views.specs.declared.shown.Shown.{Shown}
use Rattle.fpl_views.specs.Views.{text_of_view}
use Rattle.fpl_views.proofs.Texts.{texts_of_tables}
use Rattle.fpl_run.specs.declared.task.Way.{Way}
use Rattle.fpl_run.specs.declared.task.Way.TheVariants.{Show}
use Rattle.fpl_run.specs.declared.task.Task.{Task}
use Rattle.fpl_run.specs.Task.{way_of, task_for, does_compute}
use Rattle.fpl_run.specs.Start.{Start, walk_for}
use Rattle.fpl_run.specs.Answer.{AnswersTask, written_before}
use Rattle.fpl_run.specs.Answer.AnswersTask.{stopped_at, fails_in_view, shown}
use Rattle.fpl_run.specs.Laws.{OneText, WalksAreStandard, PrimesFit, StopsMean, LimitComes, FaultsCome}
use Rattle.fpl_run.proofs.Names.{command_in_range}
use Rattle.fpl_run.proofs.OneReply.{of_words, task_reply, stops_one, no_fault_at_end}
use Rattle.fpl_run.proofs.Meaning.{start_sound, start_bytes, walk_standard, reply_tells, shown_through}

pub walks_standard : WalksAreStandard
walks_standard words c way bytes s is fits from = walk_standard words c way bytes s is (λ reads. fits) from

if_some : {A : Type 0} (P : A → Type 0) (o : Option A) (x : A) → o ≡ Some x → IfSome o P → P x
if_some P None x e h = cc
if_some P (Some y) x e h = let same : y ≡ x = cc in subst P same h

pub faults_mean : StopsMean
faults_mean words c way bytes s text fault is made fits from a =
    let range = command_in_range words c is in
    let w = walk_for (task_for c way) s in
    let stop : w.stop ≡ Some (failed fault) = reply_tells words c way bytes s (stopped text fault) is made from a in
    if_some (StopMeans (does_compute way) c.entries c.limit s.presentation s.stored w.stage) w.stop (failed fault) stop
    (stops_mean (does_compute way) c.entries c.limit s.place s.has s.presentation s.stored (start_sound c bytes (λ reads. fits) is.most s from) range.1 range.0
    (start_bytes c bytes (λ reads. fits) s from))

-- a task whose walk a fault stops
stopped_task : (t : Task) (s : Start) (fault : Fault) → (walk_for t s).stop ≡ Some (failed fault) → (r : Reply) → AnswersTask t s r →
    (text : List ℕ) × (r ≡ stopped text fault)
stopped_task t s f e _ (stopped_at g k) =
    let same : failed g ≡ failed f = stops_one (failed g) (failed f) (walk_for t s).stop k e in
    let faults : g ≡ f = cc in
    (written_before t.way s.presentation (walk_for t s).stage.sections, ap (stopped (written_before t.way s.presentation (walk_for t s).stage.sections)) faults)
stopped_task t s f e _ (fails_in_view come g k) = absurd (no_fault_at_end f (walk_for t s).stop e come)
stopped_task t s f e _ (shown come text k) = absurd (no_fault_at_end f (walk_for t s).stop e come)

pub limit_comes : LimitComes
limit_comes words c way bytes s w count r is made fits from passes below a =
    let range = command_in_range words c is in
    stopped_task (task_for c way) s (too_many w count)
    (there.too_many_stops (does_compute way) c.entries c.limit s.place s.has s.presentation s.stored w count
    (start_sound c bytes (λ reads. fits) is.most s from) range.1 range.0 (start_bytes c bytes (λ reads. fits) s from) passes below)
    r (task_reply c bytes way made s from r (of_words words bytes c is r a))

pub faults_come : FaultsCome
faults_come words c way bytes s w fault r is made fits from one last below holds a =
    let range = command_in_range words c is in
    stopped_task (task_for c way) s fault
    (there.stops_there_too (does_compute way) c.entries c.limit s.place s.has s.presentation s.stored w (failed fault)
    (start_sound c bytes (λ reads. fits) is.most s from) range.1 range.0 (start_bytes c bytes (λ reads. fits) s from) one last below holds)
    r (task_reply c bytes way made s from r (of_words words bytes c is r a))

pub primes_fit : PrimesFit
primes_fit n words c bytes s text w u is fits from prime a =
    let range = command_in_range words c is in
    there.primes_fit n (does_compute (way_of c.view)) c.entries c.limit s.place s.has s.presentation s.stored w u
    (start_sound c bytes (λ reads. fits) is.most s from) range.1 range.0 (start_bytes c bytes (λ reads. fits) s from) prime
    (reply_tells words c (way_of c.view) bytes s (stopped text (overflow w u)) is refl from a)

one_shown : (v : Shown) (n : ℕ) (p q : Presentation) (T S : PlainTable) (ss rr : List Section) (text also : List ℕ) → text_of_view v n p T ss ≡ Ok text →
    text_of_view v n q S rr ≡ Ok also → text_of_view v n p T ss ≡ text_of_view v n q S rr → text ≡ also
one_shown v n p q T S ss rr text also e k same = let both : ◌≡◌ {A = Result (List ℕ) ViewFault} (Ok text) (Ok also) = sym e ∙ same ∙ k in cc

pub one_text : OneText
one_text words c v bytes more s t text also is made of_table fits fits_too from from_too same a b =
    let range = command_in_range words c is in
    let x = walk_for (task_for c (Show v)) s in
    let y = walk_for (task_for c (Show v)) t in
    let told = reply_tells words c (Show v) bytes s (done text) is made from a in
    let told_too = reply_tells words c (Show v) more t (done also) is made from_too b in
    let over : (walk_of true c.entries s.presentation t.stored c.limit (begun s.presentation t.place t.has)).stop ≡ None =
    subst (λ (p : Presentation). (walk_of true c.entries p t.stored c.limit (begun p t.place t.has)).stop ≡ None) (sym same) (shown_through c v t told_too.0) in
    let tables : x.stage.table ≡ (walk_of true c.entries s.presentation t.stored c.limit (begun s.presentation t.place t.has)).stage.table =
    there.one_table true true c.entries c.entries c.limit s.place t.place s.has t.has s.presentation s.stored t.stored
    (start_sound c bytes (λ reads. fits) is.most s from) range.1 range.1 range.0
    (start_bytes c bytes (λ reads. fits) s from) (start_bytes c more (λ reads. fits_too) t from_too) (shown_through c v s told.0) over in
    let table : x.stage.table ≡ y.stage.table =
    tables ∙ ap (λ (p : Presentation). (walk_of true c.entries p t.stored c.limit (begun p t.place t.has)).stage.table) same in
    one_shown v c.entries s.presentation t.presentation x.stage.table y.stage.table x.stage.sections y.stage.sections text also told.1 told_too.1
    (ap (λ (p : Presentation). text_of_view v c.entries p x.stage.table x.stage.sections) same ∙
    ap (λ (T : PlainTable). text_of_view v c.entries t.presentation T x.stage.sections) table
    ∙ texts_of_tables v of_table c.entries t.presentation y.stage.table x.stage.sections y.stage.sections)
