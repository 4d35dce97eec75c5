use Rattle.std.proofs.Common.{◌≡◌, ◌≤◌, ◌<◌, ◌-◌, ℕ, length, max, take}
use Rattle.fpl_table.specs.Standard.{count_through}
use Rattle.fpl_complete.proofs.Onward.{AreComputed, Costs}
use Rattle.fpl_complete.proofs.state.State.raise.Given as goal

abbrev pub invariant-loop-self : goal.invariant-loop-self
invariant-loop-self g l = record {
  presentation : l.self.presentation ≡ l.fn.self.presentation;
  from : l.fn.self.table.weight ≤ l.self.table.weight;
  to : l.self.table.weight ≤ max l.fn.self.table.weight l.d;
  within : (v : ℕ) → l.fn.self.table.weight < v → v ≤ l.self.table.weight → count_through l.self.table v ≤ l.entries;
  sections : take (length l.fn.self.sections) l.self.sections ≡ l.fn.self.sections;
  computed : AreComputed l.fn.self.presentation l.fn.self.table.weight l.self.table.weight l.self.sections;
  later : l.fn.steps ≤ l.steps;
  cost : Costs l.fn.self.presentation l.fn.self.table.weight l.d l.self.table.weight l.fn.steps l.steps;
}

abbrev pub decreases-loop-self : goal.decreases-loop-self
decreases-loop-self g l = l.d - l.self.table.weight
