use Rattle.std.proofs.Common.{◌≤◌, length}
use Rattle.fpl_rows.specs.Meaning.{IsRowOf}
use Rattle.fpl_echelon.proofs.PlaceSweeps.{Walked}
use Rattle.fpl_echelon.proofs.remainder.sweep_by.Given as goal

abbrev pub invariant-places : goal.invariant-places
invariant-places g l = record {
  within : l.most ≤ length l.fn.row;
  is_row : IsRowOf (g.F.Field.kind_of l.field) (length l.fn.row) l.left;
  walked : Walked (g.F.Field.kind_of l.field) l.rows l.fn.row l.left l.most;
}

abbrev pub decreases-places : goal.decreases-places
decreases-places g l = l.most
