use Rattle.std.proofs.Common.{◌≡◌, drop}
use Rattle.fpl_check.specs.ClosedRows.{is_formed}
use Rattle.fpl_check.proofs.stored.is_formed.Given as goal

abbrev pub invariant-loop-i : goal.invariant-loop-i
invariant-loop-i l = is_formed l.n 0 l.row ≡ is_formed l.n l.after (drop l.i l.row)
