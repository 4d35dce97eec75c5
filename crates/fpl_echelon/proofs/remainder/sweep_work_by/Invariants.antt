use Rattle.std.proofs.Common.{◌≡◌, ◌≤◌, length}
use Rattle.fpl_echelon.proofs.PlaceSweeps.{Walked}
use Rattle.fpl_echelon.proofs.remainder.sweep_work_by.Given as goal

abbrev pub invariant-places : goal.invariant-places
invariant-places g l = record {
  within : l.most ≤ length l.work.row;
  kind : l.work.kind ≡ g.F.Field.kind_of l.field;
  long : length l.work.row ≡ length l.fn.work.row;
  walked : Walked (g.F.Field.kind_of l.field) l.rows l.fn.work.row l.work.row l.most;
}

abbrev pub decreases-places : goal.decreases-places
decreases-places g l = l.most
