use Rattle.std.proofs.Common.{◌≡◌, drop}
use Rattle.fpl_views.specs.Equal.{same_row}
use Rattle.fpl_views.proofs.equal.is_same.Given as goal

abbrev pub invariant-loop-s : goal.invariant-loop-s
invariant-loop-s g l = same_row l.left l.right ≡ same_row (drop l.s l.left) (drop l.s l.right)
