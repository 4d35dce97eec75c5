-- The parts of a weight's run make its whole.
use Rattle.std.specs.Prelude.{◌≡◌, List, [], Result, Ok, Err}
use mathlib.Core.Path.{refl, sym, subst, ap, ap₂, ◌∙◌}
use Rattle.fpl_numbers.specs.declared.number.Num.{Num}
use Rattle.fpl_numbers.specs.declared.number.Unfit.{Unfit}
use Rattle.fpl_numbers.specs.declared.number.Fault.{Fault}
use Rattle.fpl_numbers.specs.declared.number.Fault.TheVariants.{NoMemory}
use Rattle.fpl_numbers.specs.declared.number.Fault.TheVariants.{Unfit as Unfits}
use Rattle.fpl_numbers.specs.Results.{and_then, map_ok, IsFault}
use Rattle.fpl_rows.proofs.Fits.{part_fits}
use Rattle.fpl_log.specs.declared.step.Step.{Step}
use Rattle.fpl_log.specs.Slim.{slim_steps}
use Rattle.plain_elimination.specs.Plain.{Elimination, Held, rows_of, close_of}
use Rattle.fpl_echelon.specs.Outcomes.{ClosedParts, closed_as}
use Rattle.fpl_model.specs.declared.presentation.Presentation.{Presentation}
use Rattle.fpl_table.specs.Plain.{PlainTable}
use Rattle.fpl_rewrite.specs.Origins.{origins_of}
use Rattle.plain_sources.proofs.Fitting.{Always}
use Rattle.plain_tables.specs.Holds.{Holds}
use Rattle.plain_lean.specs.Lean.{Agree}
use Rattle.plain_weights.specs.Weight.{begun, again, close_weight}
use Rattle.plain_weights.specs.Lean.{gather_lean, close_lean, IsSlimmed}
use Rattle.plain_weights.proofs.Gathered.{again_same}
use Rattle.plain_weights.proofs.Fitting.{close_weight_fits}
use Rattle.plain_weights.proofs.Leaning.{closes_slimmed}

abbrev pub parts : Held → ClosedParts
parts h = closed_as (rows_of h.pivots) h.steps

pub part_unfit : (r : Result Held Unfit) (u : Unfit) → map_ok parts r ≡ Err u → r ≡ Err u
part_unfit (Ok h) u e = absurd (let k : ⊥ = cc in k)
part_unfit (Err v) u e = unfit v u e
  where
    unfit : (v u : Unfit) → ◌≡◌ {A = Result ClosedParts Unfit} (Err v) (Err u) → ◌≡◌ {A = Result Held Unfit} (Err v) (Err u)
    unfit v u e = cc

-- the steps of a full record, without those of dependent rows
abbrev pub slimmed_parts : Held → ClosedParts
slimmed_parts h = closed_as (rows_of h.pivots) (slim_steps [] 0 h.steps)

same_parts : (r s : Result Held Unfit) → Agree IsSlimmed r s → map_ok parts s ≡ map_ok slimmed_parts r
same_parts (Ok h) (Ok l) is = ap₂ (λ rows steps. Ok (closed_as rows steps)) is.rows is.steps
same_parts (Err u) (Err v) is = ap Err (sym is)
same_parts (Ok h) (Err v) is = absurd is
same_parts (Err u) (Ok l) is = absurd is

fits_both : (r s : Result Held Unfit) (h : Held) → Agree IsSlimmed r s → r ≡ Ok h → (l : Held) × (s ≡ Ok l)
fits_both (Ok h) (Ok l) k is e = (l, refl)
fits_both (Err u) s k is e = absurd (let q : ⊥ = cc in q)
fits_both (Ok h) (Err v) k is e = absurd is

module _ (T : PlainTable) (p : Presentation) where
  abbrev checked : Held → Result Held Unfit
  checked h = again T p (rows_of h.pivots) (origins_of T p) h

  abbrev gathered : Result Elimination Unfit
  gathered = gather_lean T p (origins_of T p) (begun T)

  with_gathered : (e : Elimination) → gathered ≡ Ok e → close_lean T p ≡ and_then checked (close_of e)
  with_gathered e g = subst (λ w. and_then (λ e. and_then checked (close_of e)) w ≡ and_then checked (close_of e)) (sym g) refl

  with_closed : (e : Elimination) (h : Held) → gathered ≡ Ok e → close_of e ≡ Ok h → close_lean T p ≡ checked h
  with_closed e h g k = with_gathered e g ∙ subst (λ w. and_then checked w ≡ checked h) (sym k) refl

  pub close_fault : (e : Elimination) (fault : Fault) → gathered ≡ Ok e → IsFault fault (map_ok parts (close_of e)) →
      IsFault fault (map_ok parts (close_lean T p))
  close_fault e (Unfits u) g k =
      ap (map_ok parts) (with_gathered e g) ∙ subst (λ w. map_ok parts (and_then checked w) ≡ Err u) (sym (part_unfit (close_of e) u k)) refl
  close_fault e NoMemory g k = tt

  -- which rows those are that were checked
  abbrev IsClosedAs : Elimination → List (List Num) → List Step → Type 0
  IsClosedAs e rows steps = map_ok parts (close_of e) ≡ Ok (closed_as rows steps)

  pub again_fault : (e : Elimination) (rows : List (List Num)) (steps : List Step) (fault : Fault) → gathered ≡ Ok e → IsClosedAs e rows steps →
      ((h : Held) → IsFault fault (again T p rows (origins_of T p) h)) → IsFault fault (map_ok parts (close_lean T p))
  again_fault e rows steps (Unfits u) g k all =
      let r = part_fits parts (close_of e) (closed_as rows steps) k in
      let a : checked r.0 ≡ Err u =
      subst (λ (rows : List (List Num)). again T p rows (origins_of T p) r.0 ≡ Err u) (ap (λ (z : ClosedParts). z.rows) r.1.1) (all r.0) in
      ap (map_ok parts) (with_closed e r.0 g r.1.0 ∙ a)
  again_fault e rows steps NoMemory g k all = tt

  pub weighed : (e : Elimination) (rows : List (List Num)) (steps : List Step) → gathered ≡ Ok e → IsClosedAs e rows steps →
      ((h : Held) → again T p rows (origins_of T p) h ≡ Ok h) → map_ok parts (close_lean T p) ≡ Ok (closed_as rows steps)
  weighed e rows steps g k all =
      let r = part_fits parts (close_of e) (closed_as rows steps) k in
      let a : checked r.0 ≡ Ok r.0 =
      subst (λ (rows : List (List Num)). again T p rows (origins_of T p) r.0 ≡ Ok r.0) (ap (λ (z : ClosedParts). z.rows) r.1.1) (all r.0) in
      ap (map_ok parts) (with_closed e r.0 g r.1.0 ∙ a) ∙ ap Ok (sym r.1.1)

  module _ (holds : Holds p T) where
    -- the same, of the full record
    pub slimmed_same : map_ok parts (close_lean T p) ≡ map_ok slimmed_parts (close_weight T p)
    slimmed_same = same_parts (close_weight T p) (close_lean T p) (closes_slimmed p T holds)

    -- over a prime nothing is formed again
    pub weighed_once : (e : Elimination) (rows : List (List Num)) (steps : List Step) → Always T.kind → gathered ≡ Ok e → IsClosedAs e rows steps →
        map_ok parts (close_lean T p) ≡ Ok (closed_as rows steps)
    weighed_once e rows steps always g k =
        let r = part_fits parts (close_of e) (closed_as rows steps) k in
        let full = close_weight_fits T always p in
        let fits = fits_both (close_weight T p) (close_lean T p) full.0 (closes_slimmed p T holds) full.1 in
        let whole : checked r.0 ≡ Ok fits.0 = sym (with_closed e r.0 g r.1.0) ∙ fits.1 in
        ap (map_ok parts) (fits.1 ∙ sym (ap Ok (again_same T p (rows_of r.0.pivots) (origins_of T p) r.0 fits.0 whole))) ∙ ap Ok (sym r.1.1)
