-- A walk stops at a stage for each reason that stands there.
use Rattle.std.proofs.Common.{◌≡◌, ℕ, ◌-◌, ◌≤◌, ◌⊎◌, inl, inr, Bool, true, false, Ok, Err, refl, sym, ap, ap₂, subst, ◌∙◌, arith}
use Rattle.std.specs.Prelude.{nat_lt, slice_range, if◌then◌else◌}
use Rattle.std.specs.declared.result.Result.{Result}
use Rattle.fpl_numbers.specs.declared.number.Unfit.{Unfit}
use Rattle.fpl_numbers.specs.Results.{map_ok}
use Rattle.plain_elimination.specs.Plain.{Held}
use Rattle.fpl_log.specs.declared.section.Section.{Section}
use Rattle.fpl_model.specs.declared.presentation.Presentation.{Presentation}
use Rattle.fpl_model.specs.Sound.{IsSound}
use Rattle.fpl_table.specs.Standard.{IsTableOf, PassesAt, count_through}
use Rattle.plain_tables.specs.Raised.{IsRaised}
use Rattle.plain_tables.proofs.One.{tables_are_one}
use Rattle.plain_tables.proofs.OneRaised.{raised_are_one}
use Rattle.plain_weights.specs.Weight.{close_weight}
use Rattle.plain_weights.specs.Section.{section_of, section_after, OverflowsAt}
use Rattle.fpl_check.specs.Refusal.{Refusal, bad, unfit}
use Rattle.fpl_check.specs.Check.{check_of}
use Rattle.fpl_bytes.specs.declared.fault.BadBytes.{BadBytes}
use Rattle.fpl_bytes.specs.Numbers.{version_of}
use Rattle.fpl_section_bytes.specs.declared.frame.Frame.TheVariants.{Whole}
use Rattle.fpl_section_bytes.specs.Frames.{frame_of}
use Rattle.fpl_section_bytes.specs.Reading.{payload_at}
use Rattle.fpl_walk.specs.Walk.{Stored, Stage, Stop, ended, failed, too_many, bad_bytes, bad_section, overflow, next_weight, computed, computed_as, adopted, formed, framed, weighed, step_of}
use Rattle.plain_walks.specs.Walks.{HasCome, StandsWhole, IsBadThere, NothingStands, StopMeans}
use Rattle.plain_walks.specs.Walks.IsBadThere.{bad_frame, bad_content}

pub passes_step : (computes : Bool) (entries : ℕ) (p : Presentation) (at : Stored) (stage : Stage) →
    nat_lt entries (count_through stage.table (next_weight stage)) ≡ true →
    step_of computes entries p at stage ≡ Err (failed (too_many (next_weight stage) (count_through stage.table (next_weight stage))))
passes_step computes entries p at stage many = rw many refl

pub within_step : (computes : Bool) (entries : ℕ) (p : Presentation) (at : Stored) (stage : Stage) →
    nat_lt entries (count_through stage.table (next_weight stage)) ≡ false →
    step_of computes entries p at stage ≡ weighed computes p at stage
within_step computes entries p at stage few = rw few refl

pub nothing_computes : (computes : Bool) (p : Presentation) (at : Stored) (stage : Stage) → NothingStands at stage →
    weighed computes p at stage ≡ computed computes p stage
nothing_computes computes p at stage (inl e) = rw e refl
nothing_computes computes p at stage (inr e) = go stage.stored
  where
    go : (b : Bool) →
        (if b then framed computes p at stage (frame_of at.bytes stage.place (next_weight stage)) else computed computes p stage) ≡ computed computes p stage
    go true = ap (framed computes p at stage) e
    go false = refl

refused : (p : Presentation) (stage : Stage) (u : Unfit) (r : Result Held Unfit) → map_ok (section_of stage.table p) r ≡ Err u →
    computed_as stage p r ≡ Err (failed (overflow (next_weight stage) u))
refused p stage u (Ok h) e = absurd (no (section_of stage.table p h) u e)
  where
    no : (s : Section) (u : Unfit) → ◌≡◌ {A = Result Section Unfit} (Ok s) (Err u) → ⊥
    no s u e = cc
refused p stage u (Err v) e = ap (λ x. Err (failed (overflow (next_weight stage) x))) (same v u e)
  where
    same : (v u : Unfit) → ◌≡◌ {A = Result Section Unfit} (Err v) (Err u) → v ≡ u
    same v u e = cc

stored_weighs : (computes : Bool) (p : Presentation) (at : Stored) (stage : Stage) → stage.stored ≡ true →
    weighed computes p at stage ≡ framed computes p at stage (frame_of at.bytes stage.place (next_weight stage))
stored_weighs computes p at stage e = rw e refl

module _ (computes : Bool) (entries limit : ℕ) (p : Presentation) (at : Stored) (stage : Stage) (sound : IsSound p)
    (mine : IsTableOf p stage.table.weight stage.table) (built : IsRaised p stage.table) where
  few_steps : (w : ℕ) → w ≡ next_weight stage → HasCome p entries limit w stage.table → step_of computes entries p at stage ≡ weighed computes p at stage
  few_steps w e h =
      let l : count_through stage.table (next_weight stage) ≤ entries = h.within (next_weight stage) (omega (arith, e)) in
      within_step computes entries p at stage (let b : nat_lt entries (count_through stage.table (next_weight stage)) ≡ false = grind (arith, l) in b)

  passes_there : (w count : ℕ) → w ≡ next_weight stage → PassesAt p limit entries w count →
      step_of computes entries p at stage ≡ Err (failed (too_many w count))
  passes_there w count e h =
      let below : stage.table.weight ≡ w - 1 = omega (arith, e) in
      let counts : count_through stage.table w ≡ count =
      (tables_are_one p (w - 1) stage.table h.table sound (subst (λ d. IsTableOf p d stage.table) below mine) h.below).counts w ∙ h.number in
      let same : count_through stage.table (next_weight stage) ≡ count = ap (count_through stage.table) (sym e) ∙ counts in
      let more = h.passes in
      passes_step computes entries p at stage (ap (nat_lt entries) same ∙ (let b : nat_lt entries count ≡ true = grind (arith, more) in b))
      ∙ ap₂ (λ v c. Err (failed (too_many v c))) (sym e) same

  overflows_there : (w : ℕ) (u : Unfit) → w ≡ next_weight stage → computes ≡ true → NothingStands at stage → OverflowsAt p w u →
      weighed computes p at stage ≡ Err (failed (overflow w u))
  overflows_there w u e does none h =
      let table : stage.table ≡ h.table = raised_are_one p stage.table h.table sound built h.raised (let b = h.below in omega (arith, e, b)) in
      let gives : section_after stage.table p ≡ Err u = ap (λ T. section_after T p) table ∙ h.gives in
      nothing_computes computes p at stage none ∙ ap (λ c. computed c p stage) does ∙ refused p stage u (close_weight stage.table p) gives
      ∙ ap (λ v. Err (failed (overflow v u))) (sym e)

  module _ (kept : stage.stored ≡ true) where
    whole_there : (w : ℕ) (s : Section) (r : Refusal) → w ≡ next_weight stage → (h : StandsWhole p at stage.place w s) →
        check_of stage.table p s ≡ Err r → weighed computes p at stage ≡ adopted stage p s h.to (Err r)
    whole_there w s r e h run =
        let frame : frame_of at.bytes stage.place (next_weight stage) ≡ Ok (Whole h.from h.to) =
        subst (λ v. frame_of at.bytes stage.place v ≡ Ok (Whole h.from h.to)) e h.frame in
        let content : payload_at (version_of at.version) p.field (next_weight stage) h.to (slice_range at.bytes h.from h.to) ≡ Ok s =
        subst (λ v. payload_at (version_of at.version) p.field v h.to (slice_range at.bytes h.from h.to) ≡ Ok s) e h.content in
        stored_weighs computes p at stage kept ∙ ap (framed computes p at stage) frame ∙ ap (formed stage p h.to) content ∙ ap (adopted stage p s h.to) run

    bad_there : (b : BadBytes) → IsBadThere p at stage.place (next_weight stage) b → weighed computes p at stage ≡ Err (failed (bad_bytes b))
    bad_there b (bad_frame frame) = stored_weighs computes p at stage kept ∙ ap (framed computes p at stage) frame
    bad_there b (bad_content from to frame content) = stored_weighs computes p at stage kept ∙ ap (framed computes p at stage) frame
        ∙ ap (formed stage p to) content

  pub there : (stop : Stop) → StopMeans computes entries limit p at stage stop → step_of computes entries p at stage ≡ Err stop
  there ended h = few_steps (next_weight stage) refl h.2 ∙ nothing_computes computes p at stage h.1 ∙ ap (λ c. computed c p stage) h.0
  there (failed (too_many w count)) h = passes_there w count h.0 h.1
  there (failed (bad_bytes b)) h = few_steps (next_weight stage) refl h.0 ∙ bad_there h.1 b h.2
  there (failed (bad_section w spot why)) h =
      few_steps w h.0 h.1 ∙ whole_there h.2 w h.3 (bad spot why) h.0 h.4 h.5 ∙ ap (λ v. Err (failed (bad_section v spot why))) (sym h.0)
  there (failed (overflow w u)) h = few_steps w h.0 h.1 ∙ go h.2
    where
      go : ((computes ≡ true) × NothingStands at stage × OverflowsAt p w u) ⊎
          ((stage.stored ≡ true) × (s : Section) × StandsWhole p at stage.place w s × (check_of stage.table p s ≡ Err (unfit u))) →
          weighed computes p at stage ≡ Err (failed (overflow w u))
      go (inl k) = overflows_there w u h.0 k.0 k.1 k.2
      go (inr k) = whole_there k.0 w k.1 (unfit u) h.0 k.2 k.3 ∙ ap (λ v. Err (failed (overflow v u))) (sym h.0)
