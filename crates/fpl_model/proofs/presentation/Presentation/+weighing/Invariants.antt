use Rattle.std.proofs.Common.{◌≡◌, ◌≤◌, nat_eq, length, map, drop}
use Rattle.math_algebra.specs.Tree.{trees}
use Rattle.math_algebra.specs.Degrees.{of_both, weights_of}
use Rattle.fpl_model.specs.Meaning.{plain, trees_in, presentation_in}
use Rattle.fpl_model.specs.Sound.{AreTerms, count_trees}
use Rattle.fpl_model.specs.Degrees.{weight_degree}
use Rattle.fpl_model.proofs.presentation.Presentation.+weighing.Given as goal

abbrev pub invariant-weight_of_all-loop-e : goal.invariant-weight_of_all-loop-e
invariant-weight_of_all-loop-e l = record {
  same : l.e-items ≡ l.members;
  terms : AreTerms l.self.field (length l.self.generators) (trees (map plain (drop l.e-index l.e-items)));
  few : count_trees (trees (map plain (drop l.e-index l.e-items))) ≤ count_trees (trees (map plain l.members));
  left : of_both nat_eq (weight_degree l.all) (weights_of (presentation_in l.self) (trees_in l.self.field (drop l.e-index l.e-items)))
      ≡ weights_of (presentation_in l.self) (trees_in l.self.field l.members);
}
