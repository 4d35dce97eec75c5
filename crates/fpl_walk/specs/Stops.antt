-- What a run answers, told by its plain run.
--
--   PlainRun            a run as contracts see it: its presentation, the version of what is stored, and its stage
--   stored_in run bytes the stored sections, in these bytes
--   IsStop stop r       the stop is the one that r tells, or want of memory
--   stop_for fault      the stop of a fault in computing a weight
--   stop_from fault     the stop of a fault in adopting a section
use Rattle.std.specs.Prelude.{ℕ, ◌≡◌, List, Result, Err}
use Rattle.fpl_model.specs.declared.presentation.Presentation.{Presentation}
use Rattle.fpl_walk.specs.declared.stop.Stop as code
use Rattle.fpl_walk.specs.declared.stop.Stop.TheVariants.{TooMany, BadBytes, BadSection, Overflow, Ended, NoMemory}
use Rattle.fpl_complete.specs.declared.fault.RaiseFault.{RaiseFault}
use Rattle.fpl_complete.specs.declared.fault.RaiseFault.TheVariants as raise
use Rattle.fpl_complete.specs.declared.fault.AdoptFault.{AdoptFault}
use Rattle.fpl_complete.specs.declared.fault.AdoptFault.TheVariants as adopt
use Rattle.fpl_complete.specs.State.{unfit_of}
use Rattle.fpl_walk.specs.Walk.{Stored, Stage, Stop, ended, failed, too_many, bad_bytes, bad_section, overflow}

pub record PlainRun : Type 0 where
  pub presentation : Presentation
  pub version : ℕ
  pub stage : Stage

abbrev pub stored_in : PlainRun → List ℕ → Stored
stored_in run bytes = record { version = run.version; bytes = bytes }

abbrev pub IsStop : {X : Type 0} → code.Stop → Result X Stop → Type 0
IsStop (TooMany w c) r = r ≡ Err (failed (too_many w c))
IsStop (BadBytes b) r = r ≡ Err (failed (bad_bytes b))
IsStop (BadSection w spot why) r = r ≡ Err (failed (bad_section w spot why))
IsStop (Overflow w op a b) r = r ≡ Err (failed (overflow w (unfit_of op a b)))
IsStop Ended r = r ≡ Err ended
IsStop NoMemory r = Unit {0}

abbrev pub stop_for : RaiseFault → code.Stop
stop_for (raise.Limit weight count) = TooMany weight count
stop_for (raise.Overflow weight op a b) = Overflow weight op a b
stop_for raise.NoMemory = NoMemory

abbrev pub stop_from : AdoptFault → code.Stop
stop_from (adopt.Raise fault) = stop_for fault
stop_from (adopt.Bad weight spot why) = BadSection weight spot why
