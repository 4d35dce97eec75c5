use Rattle.std.proofs.Common.{◌≡◌, ◌+◌, length, Contains}
use Rattle.fpl_log.specs.declared.step.Origin.{Origin}
use Rattle.plain_elimination.specs.Plain.{Held}
use Rattle.fpl_rewrite.specs.Origins.{origins_of}
use Rattle.fpl_rewrite.specs.Cursor.{to_come}
use Rattle.plain_weights.specs.Weight.{again}
use Rattle.fpl_rewrite.specs.Filling.{empty_for}
use Rattle.fpl_complete.proofs.weight.sweep_again.Given as goal

abbrev pub invariant-origins : goal.invariant-origins
invariant-origins g l = record {
  empty : l.work ≡ empty_for l.table;
  weight : l.origins.weight ≡ l.table.weight + 1;
  listed : (o : Origin) → Contains (to_come l.table l.p l.origins) o → Contains (origins_of l.table l.p) o;
  done : (h : Held) → again l.table l.p l.rows (to_come l.table l.p l.origins) h ≡ again l.table l.p l.rows (origins_of l.table l.p) h;
}

abbrev pub decreases-origins : goal.decreases-origins
decreases-origins g l = length (to_come l.table l.p l.origins)
