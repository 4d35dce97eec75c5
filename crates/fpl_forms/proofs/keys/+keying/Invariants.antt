use Rattle.std.proofs.Common.{◌≡◌, ◌≤◌, map, drop, length}
use Rattle.math_algebra.specs.Tree.{trees}
use Rattle.fpl_model.specs.Meaning.{plain}
use Rattle.fpl_forms.specs.Distinct.{keys_of}
use Rattle.fpl_forms.proofs.keys.+keying.Given as goal

abbrev pub invariant-keys-loop-at : goal.invariant-keys-loop-at
invariant-keys-loop-at l = record {
  small : l.at ≤ length l.es;
  all : l.all ≡ keys_of (trees (map plain (drop l.at l.es)));
}

abbrev pub decreases-keys-loop-at : goal.decreases-keys-loop-at
decreases-keys-loop-at l = l.at
