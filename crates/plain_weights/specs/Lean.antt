-- The plain run of a weight that records no step of a dependent origin.
--
--   put_lean T p o e        as put_of, but that nothing is recorded of a dependent row
--   gather_lean T p os e    as gather, by put_lean
--   close_lean T p          as close_weight, by gather_lean
--   IsSlimmed full lean     the rows are the same, and the steps are those of `full` without those of dependent rows
--   LateAddNothing          over a prime other than 3, what is gathered stays as it is through the triples behind the last generator
--   ClosesSlimmed           close_weight and close_lean fail by the same operation, or what the second gives is slimmed of what the first gives
use Rattle.std.specs.Prelude.{◌≡◌, ℕ, List, [], ◌∷◌, ◌++◌, Result, Ok}
use Rattle.fpl_numbers.specs.declared.number.Unfit.{Unfit}
use Rattle.fpl_numbers.specs.Results.{map_ok, and_then}
use Rattle.fpl_log.specs.declared.step.Origin.{Origin}
use Rattle.fpl_log.specs.Slim.{slim_steps}
use Rattle.plain_elimination.specs.Plain.{Elimination, Held, close_of, rows_of}
use Rattle.plain_lean.specs.Lean.{Agree, insert_lean}
use Rattle.fpl_model.specs.declared.presentation.Presentation.{Presentation}
use Rattle.fpl_table.specs.Plain.{PlainTable}
use Rattle.plain_tables.specs.Holds.{Holds}
use Rattle.fpl_rewrite.specs.Origins.{origins_of}
use Rattle.fpl_rewrite.specs.Rows.{row_of_origin}
use Rattle.plain_sources.specs.Late.{IsReach, IsCut}
use Rattle.plain_weights.specs.Weight.{begun, with_held, again, close_weight}

abbrev pub put_lean : PlainTable → Presentation → Origin → Elimination → Result Elimination Unfit
put_lean T p o e = and_then (λ row. map_ok (λ x. with_held e x.held) (insert_lean e row o)) (row_of_origin T p o)

abbrev pub gather_lean : PlainTable → Presentation → List Origin → Elimination → Result Elimination Unfit
gather_lean T p [] e = Ok e
gather_lean T p (o ∷ os) e = and_then (λ f. gather_lean T p os f) (put_lean T p o e)

abbrev pub close_lean : PlainTable → Presentation → Result Held Unfit
close_lean T p =
    and_then (λ e. and_then (λ h. again T p (rows_of h.pivots) (origins_of T p) h) (close_of e)) (gather_lean T p (origins_of T p) (begun T))

pub record IsSlimmed (full lean : Held) : Type 0 where
  pub rows : rows_of lean.pivots ≡ rows_of full.pivots
  pub steps : lean.steps ≡ slim_steps [] 0 full.steps

abbrev pub ClosesSlimmed : Type 0
ClosesSlimmed = (p : Presentation) (T : PlainTable) → Holds p T → Agree IsSlimmed (close_weight T p) (close_lean T p)

abbrev pub LateAddNothing : Type 0
LateAddNothing =
    (p : Presentation) (T : PlainTable) (bound : ℕ) → Holds p T → IsReach T bound → (done os : List Origin) → done ++ os ≡ origins_of T p → IsCut bound os →
    (e : Elimination) → gather_lean T p done (begun T) ≡ Ok e → gather_lean T p os e ≡ Ok e
