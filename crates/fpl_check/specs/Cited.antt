-- Which earlier steps a step may cite, as code has it.
--
--   named cited steps n m    m is a step of that sort before step n
use Rattle.std.specs.Prelude.{ℕ, List, Bool}
use Rattle.fpl_log.specs.declared.step.Step.{Step}
use Rattle.fpl_check.specs.declared.cites.Cited.{Cited}
use Rattle.fpl_check.specs.declared.cites.Cited.TheVariants.{Inserts, Closes}
use Rattle.fpl_check.specs.Steps.{names_insert, names_close}

abbrev pub named : Cited → List Step → ℕ → ℕ → Bool
named Inserts steps n m = names_insert steps n m
named Closes steps n m = names_close steps n m
