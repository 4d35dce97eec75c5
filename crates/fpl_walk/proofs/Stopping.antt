-- The stop that a fault stands for is the one that the plain run tells.
use Rattle.std.proofs.Common.{◌≡◌, ◌≤◌, ◌<◌, ◌+◌, ℕ, Bool, List, Result, Ok, Err, true, false, nat_lt, ap, refl, subst, arith}
use Rattle.std.specs.Prelude.{IsErrOf}
use Rattle.fpl_numbers.specs.declared.number.Num.{Num}
use Rattle.fpl_numbers.specs.declared.number.Op.{Op}
use Rattle.fpl_numbers.specs.declared.number.Unfit.{Unfit}
use Rattle.fpl_log.specs.declared.section.Section.{Section}
use Rattle.plain_elimination.specs.Plain.{Held}
use Rattle.fpl_model.specs.declared.presentation.Presentation.{Presentation}
use Rattle.fpl_table.specs.Standard.{count_through}
use Rattle.plain_weights.specs.Weight.{close_weight}
use Rattle.fpl_check.specs.declared.fault.Spot.{Spot}
use Rattle.fpl_check.specs.declared.fault.Why.{Why}
use Rattle.fpl_check.specs.Refusal.{Refusal, bad, unfit}
use Rattle.fpl_check.specs.Check.{check_of}
use Rattle.fpl_walk.specs.declared.stop.Stop.TheVariants.{Overflow}
use Rattle.fpl_complete.specs.declared.fault.RaiseFault.{RaiseFault}
use Rattle.fpl_complete.specs.declared.fault.RaiseFault.TheVariants as raise
use Rattle.fpl_complete.specs.declared.fault.AdoptFault.{AdoptFault}
use Rattle.fpl_complete.specs.declared.fault.AdoptFault.TheVariants as adopt
use Rattle.fpl_complete.specs.State.{unfit_of}
use Rattle.fpl_bytes.specs.declared.fault.BadBytes.{BadBytes}
use Rattle.fpl_section_bytes.specs.declared.frame.Frame.{Frame}
use Rattle.fpl_section_bytes.specs.declared.frame.Frame.TheVariants.{Tail}
use Rattle.fpl_section_bytes.specs.Frames.{frame_of}
use Rattle.fpl_walk.specs.Walk.{Stage, Stored, failed, overflow, bad_section, next_weight, computed, computed_as, adopted, step_of, step_cost, computing_cost}
use Rattle.fpl_walk.specs.Stops.{IsStop, stop_for, stop_from}

closes_badly : (p : Presentation) (stage : Stage) (w : ℕ) (u : Unfit) (r : Result Held Unfit) → w ≡ stage.table.weight + 1 → r ≡ Err u →
    computed_as stage p r ≡ Err (failed (overflow w u))
closes_badly p stage w u r at e = let next : next_weight stage ≡ w = omega (arith, at) in rw e (ap (λ v. Err (failed (overflow v u))) next)

pub computing_stops : (p : Presentation) (stage : Stage) (entries : ℕ) (fault : RaiseFault) → count_through stage.table (next_weight stage) ≤ entries →
    ((w c : ℕ) → IsErrOf {T = Unit {0}} (Err fault) (raise.Limit w c) → (w ≡ stage.table.weight + 1) × (c ≡ count_through stage.table w) × (entries < c)) →
    ((w : ℕ) (op : Op) (a b : Num) → IsErrOf {T = Unit {0}} (Err fault) (raise.Overflow w op a b) → w ≡ stage.table.weight + 1) →
    ((w : ℕ) (op : Op) (a b : Num) → IsErrOf {T = Unit {0}} (Err fault) (raise.Overflow w op a b) → close_weight stage.table p ≡ Err (unfit_of op a b)) →
    (computes : Bool) → computes ≡ true → IsStop (stop_for fault) (computed computes p stage)
computing_stops p stage entries (raise.Limit w c) few limit at refused computes is =
    let h = limit w c refl in
    let same : count_through stage.table w ≡ count_through stage.table (next_weight stage) =
    (let e : w ≡ next_weight stage = omega (arith, h.0) in ap (count_through stage.table) e) in
    absurd (omega (arith, few, h.1, h.2, same))
computing_stops p stage entries (raise.Overflow w op a b) few limit at refused computes is =
    rw is (closes_badly p stage w (unfit_of op a b) (close_weight stage.table p) (at w op a b refl) (refused w op a b refl))
computing_stops p stage entries raise.NoMemory few limit at refused computes is = tt

checks_badly : (p : Presentation) (stage : Stage) (s : Section) (to w : ℕ) (u : Unfit) (r : Result (List (List Num)) Refusal) →
    w ≡ stage.table.weight + 1 → r ≡ Err (unfit u) →
    adopted stage p s to r ≡ Err (failed (overflow w u))
checks_badly p stage s to w u r at e = let next : next_weight stage ≡ w = omega (arith, at) in rw e (ap (λ v. Err (failed (overflow v u))) next)

tests_badly : (p : Presentation) (stage : Stage) (s : Section) (to w : ℕ) (spot : Spot) (why : Why) (r : Result (List (List Num)) Refusal) →
    w ≡ stage.table.weight + 1 →
    r ≡ Err (bad spot why) → adopted stage p s to r ≡ Err (failed (bad_section w spot why))
tests_badly p stage s to w spot why r at e = let next : next_weight stage ≡ w = omega (arith, at) in rw e (ap (λ v. Err (failed (bad_section v spot why))) next)

pub adopting_stops : (p : Presentation) (stage : Stage) (s : Section) (to entries : ℕ) (fault : AdoptFault) →
    count_through stage.table (next_weight stage) ≤ entries →
    ((w c : ℕ) → IsErrOf {T = Unit {0}} (Err fault) (adopt.Raise (raise.Limit w c)) → (w ≡ stage.table.weight + 1) ×
    (c ≡ count_through stage.table w) × (entries < c)) →
    ((w : ℕ) (spot : Spot) (why : Why) → IsErrOf {T = Unit {0}} (Err fault) (adopt.Bad w spot why) → (w ≡ stage.table.weight + 1) ×
    (check_of stage.table p s ≡ Err (bad spot why))) →
    ((w : ℕ) (op : Op) (a b : Num) → IsErrOf {T = Unit {0}} (Err fault) (adopt.Raise (raise.Overflow w op a b)) → (w ≡ stage.table.weight + 1) ×
    (check_of stage.table p s ≡ Err (unfit (unfit_of op a b)))) →
    IsStop (stop_from fault) (adopted stage p s to (check_of stage.table p s))
adopting_stops p stage s to entries (adopt.Raise (raise.Limit w c)) few limit fails overflows =
    let h = limit w c refl in
    let same : count_through stage.table w ≡ count_through stage.table (next_weight stage) =
    (let e : w ≡ next_weight stage = omega (arith, h.0) in ap (count_through stage.table) e) in
    absurd (omega (arith, few, h.1, h.2, same))
adopting_stops p stage s to entries (adopt.Raise (raise.Overflow w op a b)) few limit fails overflows =
    let h = overflows w op a b refl in checks_badly p stage s to w (unfit_of op a b) (check_of stage.table p s) h.0 h.1
adopting_stops p stage s to entries (adopt.Raise raise.NoMemory) few limit fails overflows = tt
adopting_stops p stage s to entries (adopt.Bad w spot why) few limit fails overflows =
    let h = fails w spot why refl in tests_badly p stage s to w spot why (check_of stage.table p s) h.0 h.1

-- a stop for an operation that does not fit is a fault for one
pub raise_overflows : {X : Type 0} (fault : RaiseFault) → ((w : ℕ) (op : Op) (a b : Num) → IsErrOf {T = Unit {0}} (Err fault) (raise.Overflow w op a b) → X) →
    (w : ℕ) (op : Op) (a b : Num) → IsErrOf {T = Unit {0}} (Err (stop_for fault)) (Overflow w op a b) → X
raise_overflows (raise.Limit v c) h w op a b e = absurd (let k : ⊥ = cc in k)
raise_overflows (raise.Overflow v o x y) h w op a b e = h v o x y refl
raise_overflows raise.NoMemory h w op a b e = absurd (let k : ⊥ = cc in k)

pub adopt_overflows : {X : Type 0} (fault : AdoptFault) →
    ((w : ℕ) (op : Op) (a b : Num) → IsErrOf {T = Unit {0}} (Err fault) (adopt.Raise (raise.Overflow w op a b)) → X) →
    (w : ℕ) (op : Op) (a b : Num) → IsErrOf {T = Unit {0}} (Err (stop_from fault)) (Overflow w op a b) → X
adopt_overflows (adopt.Raise fault) h w op a b e = raise_overflows fault
    (λ v o x y f. h v o x y (let k : ◌≡◌ {A = Result (Unit {0}) AdoptFault} (Err (adopt.Raise fault))
    (Err (adopt.Raise (raise.Overflow v o x y))) = cc in k)) w op a b e
adopt_overflows (adopt.Bad v spot why) h w op a b e = absurd (let k : ⊥ = cc in k)

-- where nothing more is stored, the weight is computed
pub tail_steps : (computes : Bool) (entries : ℕ) (p : Presentation) (at : Stored) (stage : Stage) →
    nat_lt entries (count_through stage.table (next_weight stage)) ≡ false →
    stage.stored ≡ true → frame_of at.bytes stage.place (next_weight stage) ≡ Ok Tail → step_of computes entries p at stage ≡ computed computes p stage
tail_steps computes entries p at stage few stored tail = rw few (rw stored (rw tail refl))

pub tail_costs : (computes : Bool) (entries : ℕ) (p : Presentation) (at : Stored) (stage : Stage) →
    nat_lt entries (count_through stage.table (next_weight stage)) ≡ false → stage.stored ≡ true → frame_of at.bytes stage.place (next_weight stage) ≡ Ok Tail →
    step_cost computes entries p at stage ≡ computing_cost computes p stage
tail_costs computes entries p at stage few stored tail = rw few (rw stored (rw tail refl))

pub ended_costs : (computes : Bool) (entries : ℕ) (p : Presentation) (at : Stored) (stage : Stage) →
    nat_lt entries (count_through stage.table (next_weight stage)) ≡ false → stage.stored ≡ false →
    step_cost computes entries p at stage ≡ computing_cost computes p stage
ended_costs computes entries p at stage few stored = rw few (rw stored refl)

pub frame_is : (r : Result Frame BadBytes) (f g : Frame) → r ≡ Ok f → f ≡ g → r ≡ Ok g
frame_is r f g e h = subst (λ (x : Frame). r ≡ Ok x) h e
