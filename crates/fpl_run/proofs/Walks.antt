-- Walks through weights: each step raises the table by one, and only a check comes to the end of what is stored.
use Rattle.std.proofs.Common.{◌≡◌, ℕ, zero, suc, ◌+◌, ◌-◌, ◌<◌, ◌≤◌, inl, inr, List, [], ◌∷◌, ◌++◌, append_assoc, Bool, true, false, Ok, Err, None, Some, refl, sym, ap, ◌∙◌, subst, arith}
use mathlib.Core.Path.{ap₂}
use Rattle.std.specs.Prelude.{nat_lt, if◌then◌else◌}
use Rattle.std.specs.declared.result.Result.{Result}
use Rattle.fpl_numbers.specs.declared.number.Num.{Num}
use Rattle.fpl_numbers.specs.declared.number.Unfit.{Unfit}
use Rattle.fpl_log.specs.declared.section.Section.{Section}
use Rattle.plain_elimination.specs.Plain.{Held}
use Rattle.fpl_model.specs.declared.presentation.Presentation.{Presentation}
use Rattle.fpl_table.specs.Standard.{count_through}
use Rattle.std.proofs.lemmas.List.{append-nil}
use Rattle.plain_weights.specs.Weight.{close_weight}
use Rattle.plain_weights.specs.Section.{slimmed, section_of}
use Rattle.fpl_check.specs.Refusal.{Refusal, bad, unfit}
use Rattle.fpl_check.specs.Check.{check_of}
use Rattle.fpl_bytes.specs.declared.fault.BadBytes.{BadBytes}
use Rattle.fpl_bytes.specs.Numbers.{version_of}
use Rattle.std.specs.Prelude.{slice_range}
use Rattle.fpl_section_bytes.specs.declared.frame.Frame.{Frame}
use Rattle.fpl_section_bytes.specs.declared.frame.Frame.TheVariants.{Whole, Tail}
use Rattle.fpl_section_bytes.specs.Frames.{frame_of}
use Rattle.fpl_section_bytes.specs.Reading.{payload_at}
use Rattle.fpl_walk.specs.Stops.{PlainRun, stored_in}
use Rattle.fpl_reply.specs.Reply.{Reply}
use Rattle.fpl_run.specs.Begin.{Adds, Fails, HasEnded, HasFailed}
use Rattle.fpl_walk.specs.Walk.{Stored, Stage, too_many, Stop, ended, failed, Walked, next_weight, adopted, formed, computed_as, computed, framed, weighed, step_of, stopped, walk_on, walk_of, step_cost, cost_on, cost_of}

-- a step raises the table by one weight, and adds its section
abbrev Grows : Stage → Result Stage Stop → Type 0
Grows stage (Ok next) = (next.table.weight ≡ suc stage.table.weight) × ((s : Section) × (next.sections ≡ stage.sections ++ s ∷ []))
Grows stage (Err s) = Unit {0}

-- a step does not come to the end of what is stored
abbrev Goes : Result Stage Stop → Type 0
Goes (Ok next) = Unit {0}
Goes (Err (failed f)) = Unit {0}
Goes (Err ended) = ⊥

either : (P : Result Stage Stop → Type 0) (b : Bool) (x y : Result Stage Stop) → P x → P y → P (if b then x else y)
either P true x y f g = f
either P false x y f g = g

module _ (p : Presentation) (stage : Stage) where
  adopted_grows : (s : Section) (to : ℕ) (r : Result (List (List Num)) Refusal) → Grows stage (adopted stage p s to r)
  adopted_grows s to (Ok rows) = (refl, (slimmed stage.table p s, refl))
  adopted_grows s to (Err (bad spot why)) = tt
  adopted_grows s to (Err (unfit u)) = tt

  formed_grows : (to : ℕ) (r : Result Section BadBytes) → Grows stage (formed stage p to r)
  formed_grows to (Ok s) = adopted_grows s to (check_of stage.table p s)
  formed_grows to (Err b) = tt

  computed_as_grows : (r : Result Held Unfit) → Grows stage (computed_as stage p r)
  computed_as_grows (Ok h) = (refl, (section_of stage.table p h, refl))
  computed_as_grows (Err u) = tt

  computed_grows : (c : Bool) → Grows stage (computed c p stage)
  computed_grows true = computed_as_grows (close_weight stage.table p)
  computed_grows false = tt

  adopted_goes : (s : Section) (to : ℕ) (r : Result (List (List Num)) Refusal) → Goes (adopted stage p s to r)
  adopted_goes s to (Ok rows) = tt
  adopted_goes s to (Err (bad spot why)) = tt
  adopted_goes s to (Err (unfit u)) = tt

  formed_goes : (to : ℕ) (r : Result Section BadBytes) → Goes (formed stage p to r)
  formed_goes to (Ok s) = adopted_goes s to (check_of stage.table p s)
  formed_goes to (Err b) = tt

  computed_as_goes : (r : Result Held Unfit) → Goes (computed_as stage p r)
  computed_as_goes (Ok h) = tt
  computed_as_goes (Err u) = tt

  module _ (at : Stored) where
    framed_grows : (c : Bool) (r : Result Frame BadBytes) → Grows stage (framed c p at stage r)
    framed_grows c (Ok (Whole from to)) = formed_grows to (payload_at (version_of at.version) p.field (next_weight stage) to (slice_range at.bytes from to))
    framed_grows c (Ok Tail) = computed_grows c
    framed_grows c (Err b) = tt

    framed_goes : (r : Result Frame BadBytes) → Goes (framed true p at stage r)
    framed_goes (Ok (Whole from to)) = formed_goes to (payload_at (version_of at.version) p.field (next_weight stage) to (slice_range at.bytes from to))
    framed_goes (Ok Tail) = computed_as_goes (close_weight stage.table p)
    framed_goes (Err b) = tt

    step_grows : (c : Bool) (e : ℕ) → Grows stage (step_of c e p at stage)
    step_grows c e =
        let count = count_through stage.table (next_weight stage) in
        either (Grows stage) (nat_lt e count) (Err (failed (too_many (next_weight stage) count))) (weighed c p at stage) tt
        (either (Grows stage) stage.stored (framed c p at stage (frame_of at.bytes stage.place (next_weight stage))) (computed c p stage)
        (framed_grows c (frame_of at.bytes stage.place (next_weight stage))) (computed_grows c))

    step_goes : (e : ℕ) → Goes (step_of true e p at stage)
    step_goes e =
        let count = count_through stage.table (next_weight stage) in
        either Goes (nat_lt e count) (Err (failed (too_many (next_weight stage) count))) (weighed true p at stage) tt
        (either Goes stage.stored (framed true p at stage (frame_of at.bytes stage.place (next_weight stage))) (computed true p stage)
        (framed_goes (frame_of at.bytes stage.place (next_weight stage))) (computed_as_goes (close_weight stage.table p)))

grown : (stage next : Stage) (r : Result Stage Stop) → r ≡ Ok next → Grows stage r → (next.table.weight ≡ suc stage.table.weight) ×
    ((s : Section) × (next.sections ≡ stage.sections ++ s ∷ []))
grown stage next (Ok x) e g =
    let same : x ≡ next = cc in
    (ap (λ (s : Stage). s.table.weight) (sym same) ∙ g.0, (g.1.0, ap (λ (s : Stage). s.sections) (sym same) ∙ g.1.1))
grown stage next (Err s) e g = cc

pub step_raises : (c : Bool) (e : ℕ) (p : Presentation) (at : Stored) (stage next : Stage) → step_of c e p at stage ≡ Ok next →
    next.table.weight ≡ suc stage.table.weight
step_raises c e p at stage next h = (grown stage next (step_of c e p at stage) h (step_grows p stage at c e)).0

pub step_adds : (c : Bool) (e : ℕ) (p : Presentation) (at : Stored) (stage next : Stage) → step_of c e p at stage ≡ Ok next →
    (s : Section) × (next.sections ≡ stage.sections ++ s ∷ [])
step_adds c e p at stage next h = (grown stage next (step_of c e p at stage) h (step_grows p stage at c e)).1

keeps_on : (further : Stage → Walked) (stage : Stage) →
    ((next : Stage) → (rest : List Section) × ((further next).stage.sections ≡ next.sections ++ rest)) → (r : Result Stage Stop) → Grows stage r →
    (rest : List Section) × ((walk_on further stage r).stage.sections ≡ stage.sections ++ rest)
keeps_on further stage again (Ok next) g =
    let on = again next in
    (g.1.0 ∷ on.0, on.1 ∙ ap (λ (x : List Section). x ++ on.0) g.1.1 ∙ append_assoc stage.sections (g.1.0 ∷ []) on.0)
keeps_on further stage again (Err s) g = ([], sym (append-nil stage.sections))

-- a walk keeps the sections that it begins with
pub walk_keeps : (c : Bool) (e : ℕ) (p : Presentation) (at : Stored) (n : ℕ) (stage : Stage) →
    (rest : List Section) × ((walk_of c e p at n stage).stage.sections ≡ stage.sections ++ rest)
walk_keeps c e p at zero stage = ([], sym (append-nil stage.sections))
walk_keeps c e p at (suc n) stage = keeps_on (walk_of c e p at n) stage (λ next. walk_keeps c e p at n next) (step_of c e p at stage)
    (step_grows p stage at c e)

ends_on : (further : Stage → Walked) (stage : Stage) → ((next : Stage) → (further next).stop ≡ Some ended → ⊥) → (r : Result Stage Stop) → Goes r →
    (walk_on further stage r).stop ≡ Some ended → ⊥
ends_on further stage again (Ok next) g h = again next h
ends_on further stage again (Err (failed f)) g h = cc
ends_on further stage again (Err ended) g h = g

pub never_ends : (e : ℕ) (p : Presentation) (at : Stored) (n : ℕ) (stage : Stage) → (walk_of true e p at n stage).stop ≡ Some ended → ⊥
never_ends e p at zero stage h = cc
never_ends e p at (suc n) stage h = ends_on (walk_of true e p at n) stage (λ next. never_ends e p at n next) (step_of true e p at stage)
    (step_goes p stage at e) h

-- what a loop through the weights keeps: the walk that is left, and its cost
module _ (c : Bool) (e : ℕ) (p : Presentation) (at : Stored) (limit : ℕ) where
  left_of : (w : ℕ) → w < limit → limit - w ≡ suc (limit - suc w)
  left_of w l = omega arith

  pub walk_left : (stage next : Stage) → stage.table.weight < limit → step_of c e p at stage ≡ Ok next →
      walk_of c e p at (limit - stage.table.weight) stage ≡ walk_of c e p at (limit - next.table.weight) next
  walk_left stage next l h =
      let up = step_raises c e p at stage next h in
      ap (λ n. walk_of c e p at n stage) (left_of stage.table.weight l) ∙ ap (walk_on (walk_of c e p at (limit - suc stage.table.weight)) stage) h
      ∙ ap (λ n. walk_of c e p at (limit - n) next) (sym up)

  pub cost_left : (stage next : Stage) → stage.table.weight < limit → step_of c e p at stage ≡ Ok next →
      cost_of c e p at (limit - stage.table.weight) stage ≡ step_cost c e p at stage + cost_of c e p at (limit - next.table.weight) next
  cost_left stage next l h =
      let up = step_raises c e p at stage next h in
      ap (λ n. cost_of c e p at n stage) (left_of stage.table.weight l) ∙ ap (λ r. step_cost c e p at stage +
      cost_on (cost_of c e p at (limit - suc stage.table.weight)) r) h
      ∙ ap (λ n. step_cost c e p at stage + cost_of c e p at (limit - n) next) (sym up)

  pub walk_stops : (stage : Stage) (s : Stop) → stage.table.weight < limit → step_of c e p at stage ≡ Err s →
      walk_of c e p at (limit - stage.table.weight) stage ≡ stopped stage (Some s)
  walk_stops stage s l h = ap (λ n. walk_of c e p at n stage) (left_of stage.table.weight l) ∙
      ap (walk_on (walk_of c e p at (limit - suc stage.table.weight)) stage) h

  pub cost_stops : (stage : Stage) → stage.table.weight < limit → step_cost c e p at stage ≤ cost_of c e p at (limit - stage.table.weight) stage
  cost_stops stage l =
      let same = ap (λ n. cost_of c e p at n stage) (left_of stage.table.weight l) in
      rw same (omega arith)

  pub walk_over : (stage : Stage) → limit ≤ stage.table.weight → walk_of c e p at (limit - stage.table.weight) stage ≡ stopped stage None
  walk_over stage l = let none : limit - stage.table.weight ≡ 0 = omega arith in ap (λ n. walk_of c e p at n stage) none

stored_at : ℕ → List ℕ → Stored
stored_at v bytes = record { version = v; bytes = bytes }

stored_as : (r s : PlainRun) (bytes : List ℕ) → r.version ≡ s.version → stored_in r bytes ≡ stored_in s bytes
unfolding stored_at
stored_as r s bytes e = ap (λ v. stored_at v bytes) e

-- a step of what a run has become, told by what it was
module _ (c : Bool) (e : ℕ) (start run : PlainRun) (bytes : List ℕ) (kept : run.presentation ≡ start.presentation) (same : run.version ≡ start.version) where
  pub step_there : step_of c e start.presentation (stored_in start bytes) run.stage ≡ step_of c e run.presentation (stored_in run bytes) run.stage
  step_there = ap₂ (λ q b. step_of c e q b run.stage) (sym kept) (sym (stored_as run start bytes same))

  pub cost_there : step_cost c e start.presentation (stored_in start bytes) run.stage ≡ step_cost c e run.presentation (stored_in run bytes) run.stage
  cost_there = ap₂ (λ q b. step_cost c e q b run.stage) (sym kept) (sym (stored_as run start bytes same))

  pub added_there : (b : Bool) (next : Stage) → b ≡ true → Adds b (step_of c e run.presentation (stored_in run bytes) run.stage) run.stage next →
      step_of c e start.presentation (stored_in start bytes) run.stage ≡ Ok next
  added_there b next is h =
      step_there ∙ subst (λ x. Adds x (step_of c e run.presentation (stored_in run bytes) run.stage) run.stage next) is h

  pub ended_there : (b : Bool) (next : Stage) → b ≡ false → Adds b (step_of c e run.presentation (stored_in run bytes) run.stage) run.stage next →
      (step_of c e start.presentation (stored_in start bytes) run.stage ≡ Err ended) × (next ≡ run.stage)
  ended_there b next is h =
      let k = subst (λ x. Adds x (step_of c e run.presentation (stored_in run bytes) run.stage) run.stage next) is h in
      (step_there ∙ k.0, k.1)

  pub failed_there : (r : Reply) → Fails (step_of c e run.presentation (stored_in run bytes) run.stage) r →
      Fails (step_of c e start.presentation (stored_in start bytes) run.stage) r
  failed_there r h = subst (λ x. Fails x r) (sym step_there) h

-- a walk whose next step comes to an end, or to a fault
module _ (c : Bool) (e : ℕ) (p : Presentation) (at : Stored) (limit : ℕ) (stage left : Stage) (whole : Walked) (same : left ≡ stage)
    (is : whole ≡ walk_of c e p at (limit - stage.table.weight) stage) (low : stage.table.weight < limit) where
  stops_here : (s : Stop) → step_of c e p at stage ≡ Err s → whole ≡ stopped left (Some s)
  stops_here s h = is ∙ walk_stops c e p at limit stage s low h ∙ ap (λ (x : Stage). stopped x (Some s)) (sym same)

  pub ended_here : step_of c e p at stage ≡ Err ended → HasEnded left whole
  ended_here h = inr (stops_here ended h)

  pub failed_here : (r : Reply) → Fails (step_of c e p at stage) r → HasFailed left whole r
  failed_here r (inl m) = inl m
  failed_here r (inr k) = inr (k.0, stops_here (failed k.0) k.1, k.2)
