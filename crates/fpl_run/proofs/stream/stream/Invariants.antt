use Rattle.std.proofs.Common.{◌≡◌, ℕ, ◌≤◌, ◌+◌, ◌-◌, length}
use Rattle.fpl_outside.specs.Outside.{Takes}
use Rattle.fpl_walk.specs.Walk.{walk_of, cost_of}
use Rattle.fpl_walk.specs.Stops.{stored_in}
use Rattle.fpl_run.specs.Task.{does_compute}
use Rattle.fpl_run.specs.Stream.{stream_text}
use Rattle.fpl_run.proofs.stream.stream.Given as goal

abbrev pub invariant-weights : goal.invariant-weights
invariant-weights g l = record {
  presentation : l.run.presentation ≡ l.fn.run.presentation;
  version : l.run.version ≡ l.fn.run.version;
  within : l.run.stage.table.weight ≤ l.task.limit;
  long : length l.run.stage.sections ≡ l.run.stage.table.weight;
  left : walk_of (does_compute l.task.way) l.task.entries l.fn.run.presentation (stored_in l.fn.run l.bytes) l.task.limit l.fn.run.stage
      ≡ walk_of (does_compute l.task.way) l.task.entries l.fn.run.presentation (stored_in l.fn.run l.bytes)
      (l.task.limit - l.run.stage.table.weight) l.run.stage;
  taken : Takes (g.O.Sink.taken l.fn.out) (g.O.Sink.taken l.out) (stream_text l.fn.run.presentation l.run.stage.sections);
  unhurt : g.O.Sink.faults l.fn.out ≤ g.O.Sink.faults l.out;
  later : l.fn.steps ≤ l.steps;
  cost : (n : ℕ) → l.run.stage.table.weight ≤ n →
      l.steps + cost_of (does_compute l.task.way) l.task.entries l.fn.run.presentation (stored_in l.fn.run l.bytes)
      (n - l.run.stage.table.weight) l.run.stage
      ≤ l.fn.steps + cost_of (does_compute l.task.way) l.task.entries l.fn.run.presentation (stored_in l.fn.run l.bytes) n l.fn.run.stage;
}

abbrev pub decreases-weights : goal.decreases-weights
decreases-weights g l = l.task.limit - l.run.stage.table.weight
