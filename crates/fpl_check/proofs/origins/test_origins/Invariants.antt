use Rattle.std.proofs.Common.{◌≡◌, ◌+◌, List, ◌++◌, length, Contains, IfSome, Ok, true}
use Rattle.fpl_log.specs.declared.step.Origin.{Origin}
use Rattle.fpl_rewrite.specs.Origins.{origins_of}
use Rattle.fpl_rewrite.specs.Cursor.{to_come}
use Rattle.fpl_rewrite.specs.Filling.{empty_for}
use Rattle.fpl_check.specs.Check.{test_origins}
use Rattle.fpl_check.specs.Closing.{shows}
use Rattle.plain_sources.specs.Late.{IsReach}
use Rattle.fpl_check.proofs.origins.test_origins.Given as goal

abbrev pub invariant-origins : goal.invariant-origins
invariant-origins g l = record {
  empty : l.work ≡ empty_for l.table;
  weight : l.origins.weight ≡ l.table.weight + 1;
  listed : (o : Origin) → Contains (to_come l.table l.p l.origins) o → Contains (origins_of l.table l.p) o;
  shown : IfSome l.step (λ k. shows l.table.kind l.section.steps ≡ true);
  bound : IsReach l.table l.bound;
  reached : (os : List Origin) × (os ++ to_come l.table l.p l.origins ≡ origins_of l.table l.p) × (test_origins l.table l.p l.rows os ≡ Ok tt);
  done : test_origins l.table l.p l.rows (origins_of l.table l.p) ≡ test_origins l.table l.p l.rows (to_come l.table l.p l.origins);
}

abbrev pub decreases-origins : goal.decreases-origins
decreases-origins g l = length (to_come l.table l.p l.origins)
