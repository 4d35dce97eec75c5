-- What a check answers where it does not pass, told by its plain run.
--
--   Refusal               a test that fails, with its spot; or an operation that does not fit
--   exactly r             the value, or the operation as a refusal
--   passing test rest     the rest, where the test passes; else the test's refusal
--   demand ok spot why    the test that passes where ok is true
--   IsRefusal fault e     the fault is the refusal of e, or want of memory
--   GivesCheck by r e     e is Ok value where r is Ok; else r's error is a fault of e
use Rattle.std.specs.Prelude.{◌≡◌, Bool, true, false, Result, Ok, Err}
use Rattle.fpl_numbers.specs.declared.number.Unfit.{Unfit}
use Rattle.fpl_check.specs.declared.fault.Spot.{Spot}
use Rattle.fpl_check.specs.declared.fault.Why.{Why}
use Rattle.fpl_check.specs.declared.fault.CheckFault.{CheckFault}
use Rattle.fpl_check.specs.declared.fault.CheckFault.TheVariants.{Bad, NoMemory}
use Rattle.fpl_check.specs.declared.fault.CheckFault.TheVariants.{Unfit as Unfits}

pub data Refusal : Type 0 where
  bad : Spot → Why → Refusal
  unfit : Unfit → Refusal

abbrev pub exactly : {X : Type 0} → Result X Unfit → Result X Refusal
exactly (Ok x) = Ok x
exactly (Err u) = Err (unfit u)

abbrev pub passing : {X : Type 0} → Result (Unit {0}) Refusal → Result X Refusal → Result X Refusal
passing (Ok done) rest = rest
passing (Err refusal) rest = Err refusal

abbrev pub demand : Bool → Spot → Why → Result (Unit {0}) Refusal
demand true spot why = Ok tt
demand false spot why = Err (bad spot why)

abbrev pub IsRefusal : {X : Type 0} → CheckFault → Result X Refusal → Type 0
IsRefusal (Bad spot why) exact = exact ≡ Err (bad spot why)
IsRefusal (Unfits u) exact = exact ≡ Err (unfit u)
IsRefusal NoMemory exact = Unit {0}

abbrev pub GivesCheck : {X Y : Type 0} → (Y → X) → Result Y CheckFault → Result X Refusal → Type 0
GivesCheck value (Ok done) exact = exact ≡ Ok (value done)
GivesCheck value (Err fault) exact = IsRefusal fault exact
