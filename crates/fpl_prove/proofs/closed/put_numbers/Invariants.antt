use Rattle.std.proofs.Common.{◌≡◌, map, drop}
use Rattle.fpl_numbers.specs.Numbers.{residue}
use Rattle.fpl_check.specs.ClosedRows.{stored_in}
use Rattle.fpl_prove.proofs.closed.put_numbers.Given as goal

abbrev pub invariant-loop-i : goal.invariant-loop-i
invariant-loop-i l = stored_in (map residue l.numbers) (drop l.i l.row) ≡ stored_in (map residue l.fn.numbers) l.row
