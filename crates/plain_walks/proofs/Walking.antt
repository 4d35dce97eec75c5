-- The laws of walks.
use Rattle.std.proofs.Common.{◌≡◌, ℕ, zero, suc, ◌+◌, ◌≤◌, Bool, Ok, Err, None, arith}
use Rattle.std.specs.Prelude.{IfSome}
use Rattle.std.specs.declared.result.Result.{Result}
use Rattle.fpl_model.specs.declared.presentation.Presentation.{Presentation}
use Rattle.fpl_model.specs.Sound.{IsSound}
use Rattle.plain_tables.proofs.Holding.{held_is_table}
use Rattle.fpl_bytes.specs.Codes.{IsBytes}
use Rattle.fpl_walk.specs.Walk.{Stored, Stage, Stop, Walked, begun, step_of, walk_on, walk_of}
use Rattle.plain_walks.specs.Walks.{StopMeans}
use Rattle.plain_walks.specs.Laws.{WalksAreStandard, StopsMean}
use Rattle.plain_walks.proofs.Standing.{Stands, begins, Gives, step_gives}

module _ (computes : Bool) (entries limit : ℕ) (p : Presentation) (at : Stored) (most : entries ≤ 2000000) (range : limit ≤ 1000)
    (bytes : IsBytes at.bytes) where
  abbrev Standing : Stage → Type 0
  Standing stage = Stands computes entries limit p at most range bytes stage

  -- what a walk of n more weights gives
  pub record Told (stage : Stage) (n : ℕ) (w : Walked) : Type 0 where
    pub stands : Standing w.stage
    pub reached : w.stage.table.weight ≤ stage.table.weight + n
    pub whole : w.stop ≡ None → w.stage.table.weight ≡ stage.table.weight + n
    pub stop : IfSome w.stop (StopMeans computes entries limit p at w.stage)

  on : (stage : Stage) (n : ℕ) → Standing stage → (r : Result Stage Stop) → Gives computes entries limit p at most range bytes stage r →
      ((next : Stage) → Standing next → next.table.weight ≡ suc stage.table.weight → Told next n (walk_of computes entries p at n next)) →
      Told stage (suc n) (walk_on (walk_of computes entries p at n) stage r)
  on stage n h (Ok next) gives again =
      let t = again next gives.0 gives.1 in
      record { stands = t.stands; reached = omega (arith, t.reached, gives.1); whole = λ e. omega (arith, t.whole e, gives.1); stop = t.stop }
  on stage n h (Err stop) gives again = record { stands = h; reached = omega arith; whole = λ e. absurd (let k : ⊥ = cc in k); stop = gives }

  pub walks : (n : ℕ) (stage : Stage) → Standing stage → stage.table.weight + n ≤ limit → Told stage n (walk_of computes entries p at n stage)
  walks zero stage h l = record { stands = h; reached = omega arith; whole = λ e. omega arith; stop = tt }
  walks (suc n) stage h l =
      on stage n h (step_of computes entries p at stage) (step_gives computes entries limit p at most range bytes stage h (omega (arith, l)))
      (λ next s e. walks n next s (omega (arith, l, e)))

  pub walked : (place : ℕ) (stored : Bool) → IsSound p → (n : ℕ) → n ≤ limit →
      Told (begun p place stored) n (walk_of computes entries p at n (begun p place stored))
  walked place stored sound n l = walks n (begun p place stored) (begins computes entries limit p at most range bytes place stored sound) (omega (arith, l))

pub walks_are_standard : WalksAreStandard
walks_are_standard computes entries limit place stored p at sound most range bytes =
    let t = walked computes entries limit p at most range bytes place stored sound limit (omega arith) in
    let w = walk_of computes entries p at limit (begun p place stored) in
    record {
      table = held_is_table p w.stage.table t.stands.holds;
      raised = t.stands.built;
      shape = t.stands.holds.shape;
      within = t.stands.within;
      sections = t.stands.sections;
      accepted = t.stands.accepted;
      reached = omega (arith, t.reached);
      whole = λ e. omega (arith, t.whole e);
    }

pub stops_mean : StopsMean
stops_mean computes entries limit place stored p at sound most range bytes =
    (walked computes entries limit p at most range bytes place stored sound limit (omega arith)).stop
