-- What insertions and closings answer.
--
--   lead_in outcome        the lead that an outcome names
--   closed_as rows steps   closed rows, and the steps that made them
use Rattle.std.specs.Prelude.{ℕ, List, Option, Some, None}
use Rattle.fpl_numbers.specs.declared.number.Num.{Num}
use Rattle.fpl_log.specs.declared.step.Step.{Step}
use Rattle.fpl_echelon.specs.declared.outcome.Outcome.{Outcome}
use Rattle.fpl_echelon.specs.declared.outcome.Outcome.TheVariants.{Pivot, Dependent}

abbrev pub lead_in : Outcome → Option ℕ
lead_in (Pivot s) = Some s
lead_in Dependent = None

-- closed rows and the steps that made them
pub record ClosedParts : Type 0 where
  pub rows : List (List Num)
  pub steps : List Step

abbrev pub closed_as : List (List Num) → List Step → ClosedParts
closed_as rows steps = record { rows = rows; steps = steps }
