-- Faults that are handed on.
use Rattle.std.proofs.Common.{ap}
use Rattle.std.specs.Prelude.{Result, Err}
use Rattle.fpl_numbers.specs.Results.{and_then}
use Rattle.fpl_matrices.specs.declared.fault.MapError.{MapError}
use Rattle.fpl_matrices.specs.declared.fault.MapError.TheVariants.{Syntax, Size, Number, Parity as Other, NoMemory}
use Rattle.fpl_matrices.specs.MapText.{Gives}

pub fault_then : {A B C D : Type 0} (f : A → B) (g : C → D) (h : B → Result D MapError) (e : MapError) (r : Result B MapError) → Gives f (Err e) r →
    Gives g (Err e) (and_then h r)
fault_then f g h (Syntax n) r k = ap (and_then h) k
fault_then f g h (Size n) r k = ap (and_then h) k
fault_then f g h (Number n) r k = ap (and_then h) k
fault_then f g h (Other n) r k = ap (and_then h) k
fault_then f g h NoMemory r k = tt
