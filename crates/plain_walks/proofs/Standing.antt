-- One weight of a walk: the table stays the standard table, or the walk stops for what the stop means.
use Rattle.std.proofs.Common.{◌≡◌, ℕ, zero, suc, ◌+◌, ◌-◌, ◌≤◌, ◌<◌, inl, inr, Bool, true, false, List, length, Ok, Err, refl, ap, subst, arith}
use Rattle.std.specs.Prelude.{nat_lt, slice_range, if◌then◌else◌}
use Rattle.std.specs.declared.result.Result.{Result}
use Rattle.std.proofs.lemmas.Bool.{ltb-false, ltb-true}
use native.Mathlib.Decide.{dec_le}
use Rattle.fpl_numbers.specs.declared.number.Num.{Num}
use Rattle.fpl_numbers.specs.declared.number.Unfit.{Unfit}
use Rattle.fpl_numbers.specs.Results.{map_ok}
use Rattle.fpl_log.specs.declared.section.Section.{Section}
use Rattle.plain_elimination.specs.Plain.{Held, rows_of}
use Rattle.fpl_model.specs.declared.presentation.Presentation.{Presentation}
use Rattle.fpl_model.specs.Sound.{IsSound}
use Rattle.fpl_table.specs.Plain.{PlainTable, symbols_in}
use Rattle.fpl_table.specs.Push.{push_of}
use Rattle.fpl_table.specs.Standard.{IsTableOf, start_of, count_of, count_through}
use Rattle.plain_tables.specs.Holds.{Holds}
use Rattle.plain_tables.specs.Raised.{IsRaised}
use Rattle.plain_tables.specs.Raised.IsRaised.{started, pushed}
use Rattle.plain_tables.proofs.Holding.{start_holds, push_holds, held_is_table}
use Rattle.fpl_rewrite.proofs.SymbolCounts.{symbols_counted}
use Rattle.plain_weights.specs.Weight.{close_weight}
use Rattle.plain_weights.specs.Section.{section_of, slimmed}
use Rattle.plain_weights.proofs.Completed.{next_holds, next_raised}
use Rattle.plain_weights.proofs.Counts.{counts_pushed}
use Rattle.fpl_check.specs.Refusal.{Refusal, bad, unfit}
use Rattle.fpl_check.specs.Premises.{IsSectionFor}
use Rattle.fpl_check.specs.Check.{check_of, Accepts}
use Rattle.plain_sections.proofs.Held.{slim_is_accepted, slim_is_for, held_is_accepted, section_is_for}
use Rattle.fpl_check.proofs.LawsPassed.{accepted_closed, accepted_spans}
use Rattle.fpl_complete.specs.State.{AreAccepted, AreOfWeights}
use Rattle.fpl_complete.specs.State.AreAccepted.{at_start, one_more}
use Rattle.fpl_complete.proofs.Raising.{no_sections, weights_more}
use Rattle.fpl_bytes.specs.declared.fault.BadBytes.{BadBytes}
use Rattle.fpl_bytes.specs.Codes.{IsBytes}
use Rattle.fpl_bytes.specs.Numbers.{version_of}
use Rattle.fpl_section_bytes.specs.declared.frame.Frame.{Frame}
use Rattle.fpl_section_bytes.specs.declared.frame.Frame.TheVariants.{Whole, Tail}
use Rattle.fpl_section_bytes.specs.Frames.{frame_of}
use Rattle.fpl_section_bytes.specs.Reading.{payload_at}
use Rattle.fpl_walk.specs.Walk.{Stored, Stage, Stop, failed, too_many, begun, next_weight, raised, adopted, formed, framed, computed, computed_as, weighed, step_of}
use Rattle.plain_walks.specs.Walks.{HasCome, StandsWhole, NothingStands, StopMeans}
use Rattle.plain_walks.specs.Walks.IsBadThere.{bad_frame, bad_content}
use Rattle.plain_walks.proofs.Stored.{stands_for}

module _ (computes : Bool) (entries limit : ℕ) (p : Presentation) (at : Stored) (most : entries ≤ 2000000) (range : limit ≤ 1000)
    (bytes : IsBytes at.bytes) where
  -- what every stage of a walk is
  pub record Stands (stage : Stage) : Type 0 where
    pub holds : Holds p stage.table
    pub built : IsRaised p stage.table
    pub within : (v : ℕ) → v ≤ stage.table.weight → count_through stage.table v ≤ entries
    pub sections : AreOfWeights stage.table.weight stage.sections
    pub accepted : AreAccepted p stage.table stage.sections

  pub begins : (place : ℕ) (stored : Bool) → IsSound p → Stands (begun p place stored)
  begins place stored sound = record {
    holds = start_holds p sound;
    built = started;
    within = λ v l. start_within v l;
    sections = no_sections;
    accepted = at_start;
  }
    where
      start_within : (v : ℕ) → v ≤ 0 → count_through (start_of p) v ≤ entries
      start_within zero l = omega arith
      start_within (suc v) l = absurd (omega (arith, l))

  few_symbols : (T : PlainTable) → count_through T (suc T.weight) ≤ entries → length (symbols_in T) ≤ 2000000
  few_symbols T within =
      let l : count_through T T.weight + count_of T (suc T.weight) ≤ entries = within in
      omega (arith, l, symbols_counted T, most)

  -- a stage with a weight more
  stage_more : (stage : Stage) (rows : List (List Num)) (section : Section) (place : ℕ) (stored : Bool) → Stands stage →
      count_through stage.table (suc stage.table.weight) ≤ entries →
      Holds p (push_of stage.table rows) → IsRaised p (push_of stage.table rows) → IsSectionFor stage.table section → Accepts stage.table p section rows →
      Stands (raised stage rows section place stored)
  stage_more stage rows section place stored h few holds built is accepts = record {
    holds = holds;
    built = built;
    within = λ v l. go v l (dec_le v stage.table.weight);
    sections = weights_more stage.table.weight stage.sections section h.sections is.weight;
    accepted = one_more stage.table stage.sections section rows h.accepted h.holds is accepts;
  }
    where
      go : (v : ℕ) → v ≤ suc stage.table.weight → Dec (v ≤ stage.table.weight) → count_through (push_of stage.table rows) v ≤ entries
      go v l (yes m) = omega (arith, counts_pushed stage.table h.holds.shape rows v l, h.within v m)
      go v l (no m) =
          let e : v ≡ suc stage.table.weight = omega (arith, l, m) in
          let f : count_through stage.table v ≡ count_through stage.table (suc stage.table.weight) = ap (count_through stage.table) e in
          omega (arith, counts_pushed stage.table h.holds.shape rows v l, f, few)

  abbrev pub Gives : Stage → Result Stage Stop → Type 0
  Gives stage (Ok next) = Stands next × (next.table.weight ≡ suc stage.table.weight)
  Gives stage (Err stop) = StopMeans computes entries limit p at stage stop

  module _ (stage : Stage) (h : Stands stage) (low : stage.table.weight < limit) where
    abbrev T : PlainTable
    T = stage.table

    is_table : IsTableOf p T.weight T
    is_table = held_is_table p T h.holds

    is_below : IsTableOf p (suc T.weight - 1) T
    is_below = let e : T.weight ≡ suc T.weight - 1 = omega arith in subst (λ d. IsTableOf p d T) e is_table

    module _ (few : count_through T (suc T.weight) ≤ entries) where
      has_come : HasCome p entries limit (suc T.weight) T
      has_come = record {
        from_one = omega arith;
        to_end = omega (arith, low);
        table = is_below;
        raised = h.built;
        within = λ v l. go v l (dec_le v T.weight);
      }
        where
          go : (v : ℕ) → v ≤ suc T.weight → Dec (v ≤ T.weight) → count_through T v ≤ entries
          go v l (yes m) = h.within v m
          go v l (no m) =
              let e : v ≡ suc T.weight = omega (arith, l, m) in
              let f : count_through T v ≡ count_through T (suc T.weight) = ap (count_through T) e in
              omega (arith, f, few)

      below : T.weight < 1000
      below = omega (arith, low, range)

      computed_gives : computes ≡ true → NothingStands at stage → (r : Result Held Unfit) → close_weight T p ≡ r → Gives stage (computed_as stage p r)
      computed_gives does none (Ok held) run = (
        stage_more stage (rows_of held.pivots) (section_of T p held) stage.place false h few
            (next_holds p T h.holds held run below (few_symbols T few)) (next_raised p T h.holds held run h.built)
            (section_is_for p T (section_of T p held) h.holds (few_symbols T few) (ap (map_ok (section_of T p)) run)) (held_is_accepted p T held h.holds run),
        refl,
      )
      computed_gives does none (Err u) run =
          (refl, has_come, inl (does, none, record { table = T; raised = h.built; below = refl; gives = ap (map_ok (section_of T p)) run }))

      none_stands : NothingStands at stage → (c : Bool) → computes ≡ c → Gives stage (computed c p stage)
      none_stands none true does = computed_gives does none (close_weight T p) refl
      none_stands none false does = (does, none, has_come)

      checked : stage.stored ≡ true → (s : Section) (to : ℕ) → StandsWhole p at stage.place (suc T.weight) s → (r : Result (List (List Num)) Refusal) →
          check_of T p s ≡ r → Gives stage (adopted stage p s to r)
      checked kept s to whole (Ok rows) run =
          let is = stands_for p at stage.place T s bytes h.holds.kind whole in
          let closed = accepted_closed p T s h.holds is rows run in
          let spans = accepted_spans p T s h.holds is rows run in (
            stage_more stage rows (slimmed T p s) to true h few (push_holds p T rows h.holds below (few_symbols T few) closed spans)
                (pushed T rows h.built closed spans) (slim_is_for p T s is)
                (slim_is_accepted p T s rows h.holds is run),
            refl,
          )
      checked kept s to whole (Err (bad spot why)) run = (refl, has_come, kept, s, whole, run)
      checked kept s to whole (Err (unfit u)) run = (refl, has_come, inr (kept, s, whole, run))

      read : stage.stored ≡ true → (from to : ℕ) → frame_of at.bytes stage.place (next_weight stage) ≡ Ok (Whole from to) → (r : Result Section BadBytes) →
          payload_at (version_of at.version) p.field (next_weight stage) to (slice_range at.bytes from to) ≡ r → Gives stage (formed stage p to r)
      read kept from to frame (Ok s) content = checked kept s to (record { from = from; to = to; frame = frame; content = content }) (check_of T p s) refl
      read kept from to frame (Err b) content = (has_come, kept, bad_content from to frame content)

      found : stage.stored ≡ true → (r : Result Frame BadBytes) → frame_of at.bytes stage.place (next_weight stage) ≡ r →
          Gives stage (framed computes p at stage r)
      found kept (Ok (Whole from to)) frame = read kept from to frame
          (payload_at (version_of at.version) p.field (next_weight stage) to (slice_range at.bytes from to)) refl
      found kept (Ok Tail) frame = none_stands (inr frame) computes refl
      found kept (Err b) frame = (has_come, kept, bad_frame frame)

      weighs : (b : Bool) → stage.stored ≡ b →
          Gives stage (if b then framed computes p at stage (frame_of at.bytes stage.place (next_weight stage)) else computed computes p stage)
      weighs true kept = found kept (frame_of at.bytes stage.place (next_weight stage)) refl
      weighs false kept = none_stands (inl kept) computes refl

    tested : (b : Bool) → nat_lt entries (count_through T (suc T.weight)) ≡ b →
        Gives stage (if b then Err (failed (too_many (suc T.weight) (count_through T (suc T.weight)))) else weighed computes p at stage)
    tested true passes = (
      refl,
      record {
        from_one = omega arith;
        to_end = omega (arith, low);
        table = T;
        below = is_below;
        number = refl;
        passes = ltb-true _ _ passes;
        least = λ v l. h.within v (omega (arith, l));
      },
    )
    tested false within = weighs (ltb-false _ _ within) stage.stored refl

    pub step_gives : Gives stage (step_of computes entries p at stage)
    step_gives = tested (nat_lt entries (count_through T (suc T.weight))) refl
