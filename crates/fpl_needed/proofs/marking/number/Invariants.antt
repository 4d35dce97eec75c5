use Rattle.std.proofs.Common.{◌≡◌, ◌≤◌, ◌++◌, take, drop}
use Rattle.fpl_needed.specs.Numbers.{numbered}
use Rattle.fpl_needed.proofs.marking.number.Given as goal

abbrev pub invariant-loop-n : goal.invariant-loop-n
invariant-loop-n l = record {
  few : l.count ≤ l.n-index;
  left : take l.n-index l.needed ++ numbered l.count (drop l.n-index l.needed) ≡ numbered 0 l.initial.needed;
}
