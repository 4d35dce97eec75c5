-- Plain runs that are not refused.
--
--   DoesFit r   r is a value, and no operation that does not fit
use Rattle.std.specs.Prelude.{◌≡◌, Result, Ok}
use Rattle.fpl_numbers.specs.declared.number.Unfit.{Unfit}

abbrev pub DoesFit : {X : Type 0} → Result X Unfit → Type 0
DoesFit {X} r = (x : X) × (r ≡ Ok x)
