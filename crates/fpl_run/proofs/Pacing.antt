-- A section is written before the next weight is begun.
use Rattle.std.proofs.Common.{◌≡◌, ℕ, suc, ◌+◌, ◌≤◌, ◌++◌, inr, List, [], length, take, sym, ap, ◌∙◌, subst}
use Rattle.std.specs.declared.option.Option.{Option}
use Rattle.std.proofs.lemmas.List.{append-nil}
use Rattle.fpl_log.specs.declared.section.Section.{Section}
use Rattle.fpl_outside.specs.Outside.{Takes}
use Rattle.fpl_outside.proofs.Pieces.{takes_more}
use Rattle.fpl_walk.specs.Stops.{PlainRun, stored_in}
use Rattle.fpl_walk.specs.Walk.{Walked, walk_of, cost_of}
use Rattle.fpl_reply.specs.declared.put.Cut.{Cut}
use Rattle.fpl_reply.specs.declared.put.Cut.TheVariants as cut
use Rattle.fpl_reply.specs.Put.{IsCut}
use Rattle.fpl_run.specs.declared.task.Task.{Task}
use Rattle.fpl_run.specs.Task.{does_compute}
use Rattle.fpl_run.specs.Start.{walk_for}
use Rattle.fpl_run.specs.Stream.{stream_text}
use Rattle.fpl_run.specs.Begin.{start_from, HasBegun}
use Rattle.fpl_run.specs.Pace.{Begins, through, IsPaced}
use Rattle.fpl_run.proofs.Streams.{front_of}
use Rattle.fpl_run.proofs.Ends.{walk_begun, cost_begun}

pub begins_whole : (a b : Option (List ℕ)) (text : List ℕ) → Takes a b text → Begins a b text
begins_whole a b text h = ([], subst (λ x. Takes a b x) (sym (append-nil text)) h)

-- a further text was cut
pub begins_cut : (a b c : Option (List ℕ)) (text more : List ℕ) → Takes a b text → (x : Cut) → IsCut more b c x → Begins a c text
begins_cut a b c text more t cut.NoMemory h = begins_whole a c text (subst (λ o. Takes a o text) (sym h) t)
begins_cut a b c text more t cut.WriteFault h = (take h.count more, takes_more a b c text (take h.count more) t h.takes)

-- the sections of some weights stand, and the next weight at most was begun
pub paced_run : (t : Task) (run : PlainRun) (bytes : List ℕ) → HasBegun run → (a b : Option (List ℕ)) (ss rest : List Section) →
    (walk_of (does_compute t.way) t.entries run.presentation (stored_in run bytes) t.limit run.stage).stage.sections ≡ ss ++ rest →
    Begins a b (stream_text run.presentation ss) → (old new : ℕ) →
    new ≤ old + cost_of (does_compute t.way) t.entries run.presentation (stored_in run bytes) (suc (length ss)) run.stage →
    IsPaced t (start_from run bytes) a b old new
paced_run t run bytes begun a b ss rest all begins old new most =
    let here : (walk_for t (start_from run bytes)).stage.sections ≡ ss ++ rest =
    ap (λ (w : Walked). w.stage.sections) (walk_begun t run bytes begun) ∙ all in
    inr (
      length ss,
      subst (λ x. Begins a b x) (front_of run.presentation ss rest (walk_for t (start_from run bytes)).stage.sections here) begins,
      subst (λ n. new ≤ old + n) (sym (cost_begun (through t (suc (length ss))) run bytes begun)) most,
    )
