-- Where walks stop, and where they do not.
use Rattle.std.proofs.Common.{◌≡◌, ℕ, zero, suc, ◌+◌, ◌-◌, ◌≤◌, ◌⊎◌, inl, inr, Bool, true, false, [], Ok, Err, None, Some, refl, sym, ap, subst, ◌∙◌, arith}
use Rattle.std.specs.Prelude.{IfSome, nat_lt}
use Rattle.std.specs.declared.option.Option.{Option}
use Rattle.std.specs.declared.result.Result.{Result}
use native.Mathlib.Decide.{dec_le}
use Rattle.fpl_numbers.specs.declared.number.Unfit.{Unfit}
use Rattle.fpl_numbers.specs.declared.number.Kind.{Kind}
use Rattle.fpl_numbers.specs.declared.number.Kind.TheVariants.{Rational, Prime}
use Rattle.plain_elimination.specs.Plain.{Held}
use Rattle.fpl_log.specs.declared.section.Section.{Section}
use Rattle.fpl_model.specs.declared.presentation.Presentation.{Presentation}
use Rattle.fpl_model.specs.Sound.{IsSound}
use Rattle.fpl_table.specs.Standard.{IsTableOf, PassesAt, count_through}
use Rattle.plain_tables.specs.Holds.{AreOne}
use Rattle.plain_tables.proofs.Holding.{held_is_table}
use Rattle.plain_tables.proofs.One.{tables_are_one}
use Rattle.plain_tables.proofs.OneRaised.{raised_are_one}
use Rattle.plain_weights.specs.Weight.{close_weight}
use Rattle.plain_weights.specs.Section.{FitsAt, OverflowsAt}
use Rattle.plain_weights.proofs.Computed.{computes_one, computes_over_primes}
use Rattle.fpl_bytes.specs.Codes.{IsBytes}
use Rattle.fpl_spelling.specs.Spelling.{names_of}
use Rattle.fpl_print.specs.TableText.{table_text}
use Rattle.fpl_print.proofs.OneText.{one_text}
use Rattle.fpl_walk.specs.Walk.{Stored, Stage, Stop, ended, failed, too_many, bad_bytes, bad_section, overflow, Walked, begun, next_weight, computed_as, step_of, walk_on, walk_of}
use Rattle.fpl_check.specs.Refusal.{unfit}
use Rattle.fpl_check.specs.Check.{check_of}
use Rattle.plain_walks.specs.Walks.{walk_over, IsStandardWalk, HasCome, StandsWhole, NothingStands, FaultMeans, StopMeans}
use Rattle.plain_walks.specs.Laws.{StopsThere, TooManyStops, OverflowStops, FitsGoesOn, PrimesFit, HasStandardTable, PrimesStop, OneTable, WalksGiveOneText, OneText}
use Rattle.fpl_check.proofs.Fitting.{checks_fit}
use Rattle.plain_walks.proofs.Reasons.{passes_step, within_step, nothing_computes, there}
use Rattle.plain_walks.proofs.Walking.{Told, walks_are_standard, stops_mean, walked}

-- a walk goes on from where a shorter one came to
split : (computes : Bool) (entries : ℕ) (p : Presentation) (at : Stored) (k m n : ℕ) (stage : Stage) → k ≡ m + n →
    (walk_of computes entries p at m stage).stop ≡ None →
    walk_of computes entries p at k stage ≡ walk_of computes entries p at n (walk_of computes entries p at m stage).stage
split computes entries p at k zero n stage e none = let f : k ≡ n = omega (arith, e) in ap (λ j. walk_of computes entries p at j stage) f
split computes entries p at zero (suc m) n stage e none = absurd (omega (arith, e))
split computes entries p at (suc k) (suc m) n stage e none = go (step_of computes entries p at stage)
    (λ next h. split computes entries p at k m n next (omega (arith, e)) h) none
  where
    go : (r : Result Stage Stop) →
        ((next : Stage) → (walk_of computes entries p at m next).stop ≡ None →
        walk_of computes entries p at k next ≡ walk_of computes entries p at n (walk_of computes entries p at m next).stage) →
        (walk_on (walk_of computes entries p at m) stage r).stop ≡ None →
        walk_on (walk_of computes entries p at k) stage r ≡ walk_of computes entries p at n (walk_on (walk_of computes entries p at m) stage r).stage
    go (Ok next) further none = further next none
    go (Err stop) further none = absurd (let z : ⊥ = cc in z)

-- a walk that comes to a stage and stops at its next weight
stops_then : (computes : Bool) (entries limit place w : ℕ) (stored : Bool) (p : Presentation) (at : Stored) (stop : Stop) → 1 ≤ w → w ≤ limit →
    (walk_over computes entries p at (w - 1) place stored).stop ≡ None →
    step_of computes entries p at (walk_over computes entries p at (w - 1) place stored).stage ≡ Err stop →
    (walk_over computes entries p at limit place stored).stop ≡ Some stop
stops_then computes entries limit place w stored p at stop one end none step =
    let stage = (walk_over computes entries p at (w - 1) place stored).stage in
    ap (λ (x : Walked). x.stop) (split computes entries p at limit (w - 1) (suc (limit - w)) (begun p place stored) (omega (arith, one, end)) none)
    ∙ ap (λ (r : Result Stage Stop). (walk_on (walk_of computes entries p at (limit - w)) stage r).stop) step

-- where a walk through the weights below w has come to
module _ (computes : Bool) (entries limit place : ℕ) (stored : Bool) (p : Presentation) (at : Stored) (w : ℕ) (sound : IsSound p)
    (most : entries ≤ 2000000) (range : limit ≤ 1000) (bytes : IsBytes at.bytes) (one : 1 ≤ w) (end : w ≤ limit) where
  abbrev below : Walked
  below = walk_over computes entries p at (w - 1) place stored

  come : Told computes entries limit p at most range bytes (begun p place stored) (w - 1) below
  come = walked computes entries limit p at most range bytes place stored sound (w - 1) (omega (arith, end))

  pub next_is : below.stop ≡ None → next_weight below.stage ≡ w
  next_is none = omega (arith, come.whole none, one)

  pub stops_there : (stop : Stop) → below.stop ≡ None → StopMeans computes entries limit p at below.stage stop →
      (walk_over computes entries p at limit place stored).stop ≡ Some stop
  stops_there stop none h =
      stops_then computes entries limit place w stored p at stop one end none
      (there computes entries limit p at below.stage sound (held_is_table p below.stage.table come.stands.holds) come.stands.built stop h)

  pub has_come : below.stop ≡ None → count_through below.stage.table w ≤ entries → HasCome p entries limit w below.stage.table
  has_come none few = record {
    from_one = one;
    to_end = end;
    table =
        let weight : below.stage.table.weight ≡ w - 1 = omega (arith, come.whole none) in
        subst (λ d. IsTableOf p d below.stage.table) weight (held_is_table p below.stage.table come.stands.holds);
    raised = come.stands.built;
    within = λ v l. go v l (dec_le v below.stage.table.weight);
  }
    where
      go : (v : ℕ) → v ≤ w → Dec (v ≤ below.stage.table.weight) → count_through below.stage.table v ≤ entries
      go v l (yes m) = come.stands.within v m
      go v l (no m) = let e : w ≡ v = omega (arith, l, m, come.whole none, one) in subst (λ u. count_through below.stage.table u ≤ entries) e few

pub stops_there_too : StopsThere
stops_there_too computes entries limit place stored p at w stop sound most range bytes one end none h =
    stops_there computes entries limit place stored p at w sound most range bytes one end stop none h

pub too_many_stops : TooManyStops
too_many_stops computes entries limit place stored p at w count sound most range bytes passes none =
    let next = next_is computes entries limit place stored p at w sound most range bytes passes.from_one passes.to_end none in
    stops_there computes entries limit place stored p at w sound most range bytes passes.from_one passes.to_end (failed (too_many w count)) none
    (sym next, passes)

pub overflow_stops : OverflowStops
overflow_stops entries limit place stored p at w u sound most range bytes one end none nothing few overflows =
    let next = next_is true entries limit place stored p at w sound most range bytes one end none in
    let come = has_come true entries limit place stored p at w sound most range bytes one end none few in
    stops_there true entries limit place stored p at w sound most range bytes one end (failed (overflow w u)) none
    (sym next, come, inl (refl, nothing, overflows))

-- with nothing stored nothing is adopted
plain_on : (entries : ℕ) (p : Presentation) (at : Stored) (n : ℕ) (stage : Stage) → stage.stored ≡ false →
    (walk_of true entries p at n stage).stage.stored ≡ false
plain_on entries p at zero stage plain = plain
plain_on entries p at (suc n) stage plain = tested (λ next e. plain_on entries p at n next e)
    (nat_lt entries (count_through stage.table (next_weight stage))) refl
  where
    closed : ((next : Stage) → next.stored ≡ false → (walk_of true entries p at n next).stage.stored ≡ false) → (r : Result Held Unfit) →
        (walk_on (walk_of true entries p at n) stage (computed_as stage p r)).stage.stored ≡ false
    closed further (Ok h) = further _ refl
    closed further (Err u) = plain

    tested : ((next : Stage) → next.stored ≡ false → (walk_of true entries p at n next).stage.stored ≡ false) → (b : Bool) →
        nat_lt entries (count_through stage.table (next_weight stage)) ≡ b → (walk_of true entries p at (suc n) stage).stage.stored ≡ false
    tested further true many = ap (λ (r : Result Stage Stop). (walk_on (walk_of true entries p at n) stage r).stage.stored)
        (passes_step true entries p at stage many) ∙ plain
    tested further false few =
        ap (λ (r : Result Stage Stop). (walk_on (walk_of true entries p at n) stage r).stage.stored)
        (within_step true entries p at stage few ∙ nothing_computes true p at stage (inl plain))
        ∙ closed further (close_weight stage.table p)

not_both : (b : Bool) → b ≡ true → b ≡ false → ⊥
not_both b e f = let z : ⊥ = cc in z

-- why a walk stops, where it stops
means : (computes : Bool) (entries limit : ℕ) (p : Presentation) (at : Stored) (w : Walked) (s : Stop) →
    IfSome w.stop (StopMeans computes entries limit p at w.stage) → w.stop ≡ Some s → StopMeans computes entries limit p at w.stage s
means computes entries limit p at w s h e = subst (λ o. IfSome o (StopMeans computes entries limit p at w.stage)) e h

module _ (entries limit : ℕ) (p : Presentation) (at : Stored) (stage : Stage) (plain : stage.stored ≡ false) (sound : IsSound p) where
  -- with nothing stored a walk that computes stops where the symbols pass the entries, or an operation does not fit
  only : (s : Stop) → StopMeans true entries limit p at stage s →
      ((w : ℕ) × (count : ℕ) × PassesAt p limit entries w count) ⊎ ((w : ℕ) × (u : Unfit) × (1 ≤ w) × (w ≤ limit) × OverflowsAt p w u)
  only ended h = absurd (not_both true refl h.0)
  only (failed (too_many w count)) h = inl (w, count, h.1)
  only (failed (bad_bytes b)) h = absurd (not_both stage.stored h.1 plain)
  only (failed (bad_section w spot why)) h = absurd (not_both stage.stored h.2 plain)
  only (failed (overflow w u)) h = go h.2
    where
      go : ((true ≡ true) × NothingStands at stage × OverflowsAt p w u) ⊎
          ((stage.stored ≡ true) × (s : Section) × StandsWhole p at stage.place w s × (check_of stage.table p s ≡ Err (unfit u))) →
          ((w : ℕ) × (count : ℕ) × PassesAt p limit entries w count) ⊎ ((w : ℕ) × (u : Unfit) × (1 ≤ w) × (w ≤ limit) × OverflowsAt p w u)
      go (inl k) = inr (w, u, h.1.from_one, h.1.to_end, k.2)
      go (inr k) = absurd (not_both stage.stored k.0 plain)

fits_not : (p : Presentation) (w : ℕ) (u : Unfit) → IsSound p → FitsAt p w → OverflowsAt p w u → ⊥
fits_not p w u sound f o = let same : Ok f.0 ≡ Err u = computes_one p w (Ok f.0) (Err u) sound f.1 o in cc

pub fits_go_on : FitsGoesOn
fits_go_on entries limit place p at sound most range bytes few fit =
    go (walk_over true entries p at limit place false).stop refl
  where
    unfit_never : (w : ℕ) (u : Unfit) → 1 ≤ w → w ≤ limit → OverflowsAt p w u → (kind : Kind) → p.field ≡ kind → ⊥
    unfit_never w u one end o Rational field = fits_not p w u sound (fit field w one end) o
    unfit_never w u one end o (Prime n) field = computes_over_primes n p w u field o

    go : (o : Option Stop) → (walk_over true entries p at limit place false).stop ≡ o → (walk_over true entries p at limit place false).stop ≡ None
    go None e = e
    go (Some s) e =
        let w = walk_over true entries p at limit place false in
        let h = means true entries limit p at w s (stops_mean true entries limit place false p at sound most range bytes) e in
        absurd (elim (only entries limit p at w.stage (plain_on entries p at limit (begun p place false) refl) sound s h) [
          | inl k ↦ few k.0 k.1 k.2
          | inr k ↦ unfit_never k.0 k.1 k.2 k.3 k.4 p.field refl
        ])

pub primes_fit : PrimesFit
primes_fit n computes entries limit place stored p at w u sound most range bytes field e =
    let v = walk_over computes entries p at limit place stored in
    let h : FaultMeans computes entries limit p at v.stage (overflow w u) =
    means computes entries limit p at v (failed (overflow w u)) (stops_mean computes entries limit place stored p at sound most range bytes) e in
    let kind : v.stage.table.kind ≡ Prime n = h.1.table.kind ∙ field in
    elim h.2 [
      | inl k ↦ computes_over_primes n p w u field k.2
      | inr k ↦ checks_fit n v.stage.table p k.1 u kind k.3
    ]

no_bytes : IsBytes []
no_bytes i = omega arith

pub primes_stop : PrimesStop
primes_stop n entries limit p sound most range field = go walk.stop refl
  where
    none : Stored
    none = record { version = 2; bytes = [] }

    walk : Walked
    walk = walk_over true entries p none limit 0 false

    standard : IsStandardWalk p entries limit walk
    standard = walks_are_standard true entries limit 0 false p none sound most range no_bytes

    go : (o : Option Stop) → walk.stop ≡ o → HasStandardTable p limit entries ⊎ ((w : ℕ) × (count : ℕ) × PassesAt p limit entries w count)
    go None e =
        let weight = standard.whole e in
        inl (record {
          table = walk.stage.table;
          standard = subst (λ d. IsTableOf p d walk.stage.table) weight standard.table;
          within = λ v l. standard.within v (omega (arith, l, weight));
        })
    go (Some s) e =
        let h = means true entries limit p none walk s (stops_mean true entries limit 0 false p none sound most range no_bytes) e in
        elim (only entries limit p none walk.stage (plain_on entries p none limit (begun p 0 false) refl) sound s h) [
          | inl k ↦ inr k
          | inr k ↦ absurd (computes_over_primes n p k.0 k.1 field k.4)
        ]

pub one_table : OneTable
one_table computes also entries more limit place other stored kept p at by sound most much range bytes bytes' e f =
    let v = walks_are_standard computes entries limit place stored p at sound most range bytes in
    let w = walks_are_standard also more limit other kept p by sound much range bytes' in
    raised_are_one p _ _ sound v.raised w.raised (v.whole e ∙ sym (w.whole f))

pub walks_give_one_text : WalksGiveOneText
walks_give_one_text computes also entries more limit place other stored kept p at by sound most much range bytes bytes' e f =
    ap (table_text (names_of p)) (one_table computes also entries more limit place other stored kept p at by sound most much range bytes bytes' e f)

pub text_one : OneText
text_one p d T S sound t s = let one : AreOne T S = tables_are_one p d T S sound t s in one_text
    (names_of p) T S one.kind one.weight one.generators one.basis one.images one.entries
