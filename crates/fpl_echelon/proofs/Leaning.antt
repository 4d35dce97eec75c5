-- A row that is put in without its step being recorded where it is dependent leaves the pivot rows that `insert_of` has.
use Rattle.std.specs.Prelude.{◌≡◌, ℕ, List, [], ◌∷◌, ◌++◌, length, Option, Some, None, Result, Ok, Err, All, OnErr}
use Rattle.std.proofs.Common.{refl, sym, subst, ap}
use Rattle.fpl_numbers.specs.declared.number.Num.{Num}
use Rattle.fpl_numbers.specs.declared.number.Kind.{Kind}
use Rattle.fpl_numbers.specs.declared.number.Fault.{Fault}
use Rattle.fpl_numbers.specs.declared.number.Unfit.{Unfit}
use Rattle.fpl_numbers.specs.Numbers.{IsField, residue}
use Rattle.fpl_numbers.specs.Results.{GivesBy, map_ok, and_then}
use Rattle.fpl_rows.proofs.Fits.{ok_same}
use Rattle.fpl_scalar.specs.Vectors.{AreElements}
use Rattle.fpl_rows.specs.Positions.{lead_of}
use Rattle.fpl_log.specs.declared.step.Origin.{Origin}
use Rattle.fpl_log.specs.declared.step.Step.{Step}
use Rattle.fpl_log.specs.declared.step.Step.TheVariants.{Insert}
use Rattle.plain_elimination.specs.Plain.{PivotRow, IsPivotRow, Swept, Held, Elimination, Inserted, inserted_as, keep_of, sweep_of, insert_of}
use Rattle.plain_elimination.proofs.Found.{insert_pivots}
use Rattle.plain_lean.specs.Lean.{keep_lean, insert_lean}
use Rattle.fpl_echelon.specs.declared.outcome.Outcome.{Outcome}
use Rattle.fpl_echelon.specs.Outcomes.{lead_in}

module _ (e : Elimination) (row : List Num) (origin : Origin) where
  -- the full record has these pivot rows
  abbrev HasPivots : List PivotRow → Result Inserted Unfit → Type 0
  HasPivots pivots r = (full : Inserted) × (r ≡ Ok full) × (full.held.pivots ≡ pivots)

  as_full : (r : Inserted) → insert_lean e row origin ≡ Ok r → HasPivots r.held.pivots (insert_of e row origin)
  as_full r f = swept (sweep_of e.kind e.held.pivots e.size (record { row = row; terms = [] })) f
    where
      kept : (x : Swept) (o : Option ℕ) → map_ok (λ h. inserted_as o h) (keep_lean e.kind e.held origin x o) ≡ Ok r →
          HasPivots r.held.pivots (map_ok (λ h. inserted_as o h) (keep_of e.kind e.held origin x o))
      kept x None f = (
        inserted_as None (record { pivots = e.held.pivots; steps = e.held.steps ++ (Insert origin x.terms (residue 0)) ∷ [] }),
        refl,
        ap (λ (z : Inserted). z.held.pivots) (ok_same f),
      )
      kept x (Some s) f = (r, f, refl)

      swept : (x : Result Swept Unfit) →
          and_then (λ x. map_ok (λ h. inserted_as (lead_of x.row) h) (keep_lean e.kind e.held origin x (lead_of x.row))) x ≡ Ok r →
          HasPivots r.held.pivots (and_then (λ x. map_ok (λ h. inserted_as (lead_of x.row) h) (keep_of e.kind e.held origin x (lead_of x.row))) x)
      swept (Ok x) f = kept x (lead_of x.row) f
      swept (Err u) f = absurd (let k : ⊥ = cc in k)

  pub pivots_lean : (pivots : List PivotRow) (steps : List Step) (r : Result Outcome Fault) →
      IsField e.kind → All (IsPivotRow e.kind e.size) e.held.pivots → length row ≡ e.size → AreElements e.kind row →
      GivesBy (λ outcome. inserted_as (lead_in outcome) (record { pivots = pivots; steps = steps })) r (insert_lean e row origin) →
      OnErr r ((pivots ≡ e.held.pivots) × (steps ≡ e.held.steps)) → All (IsPivotRow e.kind e.size) pivots
  pivots_lean pivots steps (Ok outcome) listed all len a g h =
      let full = as_full (inserted_as (lead_in outcome) (record { pivots = pivots; steps = steps })) g in
      subst (All (IsPivotRow e.kind e.size)) full.2 (insert_pivots e row origin full.0 listed all len a full.1)
  pivots_lean pivots steps (Err fault) listed all len a g h = subst (All (IsPivotRow e.kind e.size)) (sym h.0) all

-- the same, over as many positions by another name
pub lean_at_size : (kind : Kind) (row : List Num) (origin : Origin) (before : Held) (n m : ℕ) (after : Held) (r : Result Outcome Fault) → n ≡ m →
    GivesBy (λ outcome. inserted_as (lead_in outcome) after) r (insert_lean (record { kind = kind; size = n; held = before }) row origin) →
    GivesBy (λ outcome. inserted_as (lead_in outcome) after) r (insert_lean (record { kind = kind; size = m; held = before }) row origin)
lean_at_size kind row origin before n m after r e h =
    subst (λ k. GivesBy (λ outcome. inserted_as (lead_in outcome) after) r (insert_lean (record { kind = kind; size = k; held = before }) row origin)) e h
