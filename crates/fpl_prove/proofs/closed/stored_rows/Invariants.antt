use Rattle.std.proofs.Common.{◌≡◌, map, take}
use Rattle.fpl_check.specs.ClosedRows.{stored_row}
use Rattle.fpl_prove.proofs.closed.stored_rows.Given as goal

abbrev pub invariant-loop-k : goal.invariant-loop-k
invariant-loop-k l = l.rows ≡ map (stored_row l.n) (take l.k l.closed)
