use Rattle.std.proofs.Common.{◌≡◌, ◌≤◌, ◌+◌, ◌-◌}
use Rattle.fpl_walk.specs.Walk.{walk_of, cost_of}
use Rattle.fpl_walk.specs.Stops.{stored_in}
use Rattle.fpl_run.specs.Task.{does_compute}
use Rattle.fpl_run.proofs.walk.walk.Given as goal

abbrev pub invariant-weights : goal.invariant-weights
invariant-weights g l = record {
  presentation : l.run.presentation ≡ l.fn.run.presentation;
  version : l.run.version ≡ l.fn.run.version;
  within : l.run.stage.table.weight ≤ l.task.limit;
  left : walk_of (does_compute l.task.way) l.task.entries l.fn.run.presentation (stored_in l.fn.run l.bytes) l.task.limit l.fn.run.stage
      ≡ walk_of (does_compute l.task.way) l.task.entries l.fn.run.presentation (stored_in l.fn.run l.bytes)
      (l.task.limit - l.run.stage.table.weight) l.run.stage;
  later : l.fn.steps ≤ l.steps;
  cost : l.steps + cost_of (does_compute l.task.way) l.task.entries l.fn.run.presentation (stored_in l.fn.run l.bytes)
      (l.task.limit - l.run.stage.table.weight) l.run.stage
      ≤ l.fn.steps + cost_of (does_compute l.task.way) l.task.entries l.fn.run.presentation (stored_in l.fn.run l.bytes) l.task.limit l.fn.run.stage;
}

abbrev pub decreases-weights : goal.decreases-weights
decreases-weights g l = l.task.limit - l.run.stage.table.weight
