-- The faults of views whose only own operations are those of the field.
--   in_view r: what an operation gives, or its overflow in the view
use Rattle.std.specs.Prelude.{Result, Ok, Err}
use Rattle.fpl_numbers.specs.declared.number.Unfit.{Unfit}
use Rattle.fpl_reply.specs.declared.view_fault.ViewFault.{ViewFault}
use Rattle.fpl_reply.specs.declared.view_fault.ViewFault.TheVariants.{Overflow}

abbrev pub in_view : {T : Type 0} → Result T Unfit → Result T ViewFault
in_view (Ok x) = Ok x
in_view (Err u) = Err (Overflow u)
