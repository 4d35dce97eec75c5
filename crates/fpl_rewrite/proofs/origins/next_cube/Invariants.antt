use Rattle.std.proofs.Common.{◌≡◌}
use Rattle.fpl_rewrite.specs.Cursor.{cubes_from}
use Rattle.fpl_rewrite.proofs.origins.next_cube.Given as goal

abbrev pub invariant-loop-at : goal.invariant-loop-at
invariant-loop-at g l = cubes_from l.table l.i ≡ cubes_from l.table l.at
