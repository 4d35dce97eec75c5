-- Faults of computing, as faults of a check.
--
--   fault_as fault    the same fault
use Rattle.fpl_numbers.specs.declared.number.Fault.{Fault}
use Rattle.fpl_numbers.specs.declared.number.Fault.TheVariants.{NoMemory}
use Rattle.fpl_numbers.specs.declared.number.Fault.TheVariants.{Unfit as Unfits}
use Rattle.fpl_check.specs.declared.fault.CheckFault.{CheckFault}
use Rattle.fpl_check.specs.declared.fault.CheckFault.TheVariants.{NoMemory as no_memory}
use Rattle.fpl_check.specs.declared.fault.CheckFault.TheVariants.{Unfit as unfits}

abbrev pub fault_as : Fault → CheckFault
fault_as (Unfits u) = unfits u
fault_as NoMemory = no_memory
