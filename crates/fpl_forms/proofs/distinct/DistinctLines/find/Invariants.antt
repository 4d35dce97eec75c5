use Rattle.std.proofs.Common.{◌≡◌, ◌≤◌, ◌<◌, length}
use Rattle.fpl_forms.specs.Distinct.{key_at, sides_key}
use Rattle.fpl_forms.proofs.Indexing.{HaveNotAfter}
use Rattle.fpl_forms.proofs.distinct.DistinctLines.find.Given as goal

abbrev pub invariant-loop-n : goal.invariant-loop-n
invariant-loop-n l = record {
  within : l.n ≤ length l.self;
  key : 0 < l.n → key_at l.self l.n ≡ sides_key l.left l.right;
  none : HaveNotAfter l.self l.n l.left l.right;
}

abbrev pub decreases-loop-n : goal.decreases-loop-n
decreases-loop-n l = l.n
