-- The closed rows of a weight and its section, from the parts that make them.
use Rattle.std.specs.Prelude.{ℕ, suc, ◌≡◌, List, [], length, Result, Ok, Err, Some}
use mathlib.Core.Path.{sym, ap, ◌∙◌}
use Rattle.fpl_numbers.specs.declared.number.Num.{Num}
use Rattle.fpl_numbers.specs.declared.number.Unfit.{Unfit}
use Rattle.fpl_numbers.specs.declared.number.Fault.{Fault}
use Rattle.fpl_numbers.specs.declared.number.Fault.TheVariants.{NoMemory}
use Rattle.fpl_numbers.specs.declared.number.Fault.TheVariants.{Unfit as Unfits}
use Rattle.fpl_numbers.specs.Results.{map_ok, IsFault}
use Rattle.fpl_rows.proofs.Fits.{part_fits}
use Rattle.fpl_log.specs.declared.step.Step.{Step}
use Rattle.fpl_log.specs.declared.section.Section.{Section}
use Rattle.fpl_log.specs.Slim.{slim_steps}
use Rattle.plain_elimination.specs.Plain.{Held, rows_of}
use Rattle.fpl_echelon.specs.Outcomes.{ClosedParts, closed_as}
use Rattle.fpl_model.specs.declared.presentation.Presentation.{Presentation}
use Rattle.fpl_table.specs.Plain.{PlainTable}
use Rattle.fpl_rewrite.specs.Origins.{origins_of}
use Rattle.plain_tables.specs.Holds.{Holds}
use Rattle.plain_weights.specs.Weight.{close_weight}
use Rattle.plain_weights.specs.Lean.{close_lean}
use Rattle.plain_weights.specs.Section.{closed_list, section_of}
use Rattle.fpl_complete.specs.State.{PlainWeighed, weighed_as}
use Rattle.fpl_complete.proofs.Closing.{parts, slimmed_parts, slimmed_same}

module _ (T : PlainTable) (p : Presentation) where
  abbrev pub weighed : Held → PlainWeighed
  weighed h = weighed_as (rows_of h.pivots) (section_of T p h)

  -- a section of the parts
  abbrev section_from : ℕ → ℕ → List (List Num) → List Step → Section
  section_from w n rows steps = record { weight = w; origins = Some n; steps = steps; closed = closed_list rows }

  pub weighs : Holds p T → (w n : ℕ) (rows : List (List Num)) (steps : List Step) (section : Section) → w ≡ suc T.weight → n ≡ length (origins_of T p) →
      map_ok parts (close_lean T p) ≡ Ok (closed_as rows steps) → section ≡ section_from w n rows steps →
      map_ok weighed (close_weight T p) ≡ Ok (weighed_as rows section)
  weighs holds w n rows steps section e count k is =
      let r = part_fits slimmed_parts (close_weight T p) (closed_as rows steps) (sym (slimmed_same T p holds) ∙ k) in
      let rows_are : rows ≡ rows_of r.0.pivots = ap (λ (z : ClosedParts). z.rows) r.1.1 in
      let steps_are : steps ≡ slim_steps [] 0 r.0.steps = ap (λ (z : ClosedParts). z.steps) r.1.1 in
      ap (map_ok weighed) r.1.0
      ∙ ap (λ (rows : List (List Num)). Ok (weighed_as rows (section_of T p r.0))) (sym rows_are)
      ∙ ap (λ (x : Section). Ok (weighed_as rows x))
      (ap (λ (ss : List Step). section_from (suc T.weight) (length (origins_of T p)) (rows_of r.0.pivots) ss) (sym steps_are)
      ∙ ap (λ (rows : List (List Num)). section_from (suc T.weight) (length (origins_of T p)) rows steps) (sym rows_are)
      ∙ ap (λ (n : ℕ). section_from (suc T.weight) n rows steps) (sym count)
      ∙ ap (λ (w : ℕ). section_from w n rows steps) (sym e)
      ∙ sym is)

  unfits : (u : Unfit) (r : Result Held Unfit) → map_ok slimmed_parts r ≡ Err u → map_ok weighed r ≡ Err u
  unfits u (Ok h) e = absurd (let k : ⊥ = cc in k)
  unfits u (Err v) e = same v u e
    where
      same : (v u : Unfit) → ◌≡◌ {A = Result ClosedParts Unfit} (Err v) (Err u) → ◌≡◌ {A = Result PlainWeighed Unfit} (Err v) (Err u)
      same v u e = cc

  pub weigh_fault : Holds p T → (fault : Fault) → IsFault fault (map_ok parts (close_lean T p)) → IsFault fault (map_ok weighed (close_weight T p))
  weigh_fault holds (Unfits u) k = unfits u (close_weight T p) (sym (slimmed_same T p holds) ∙ k)
  weigh_fault holds NoMemory k = tt
