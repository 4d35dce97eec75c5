use Rattle.std.proofs.Common.{◌≡◌, length, map, drop}
use Rattle.math_algebra.specs.Tree.{trees}
use Rattle.math_algebra.specs.Degrees.{of_both, same_parity, parities_of}
use Rattle.fpl_model.specs.Meaning.{plain, trees_in, presentation_in}
use Rattle.fpl_model.specs.Sound.{AreTerms}
use Rattle.fpl_model.specs.Degrees.{parity_degree}
use Rattle.fpl_model.proofs.presentation.Presentation.+pairing.Given as goal

abbrev pub invariant-parity_of_all-loop-e : goal.invariant-parity_of_all-loop-e
invariant-parity_of_all-loop-e l = record {
  same : l.e-items ≡ l.members;
  terms : AreTerms l.self.field (length l.self.generators) (trees (map plain (drop l.e-index l.e-items)));
  left : of_both same_parity (parity_degree l.all) (parities_of (presentation_in l.self) (trees_in l.self.field (drop l.e-index l.e-items)))
      ≡ parities_of (presentation_in l.self) (trees_in l.self.field l.members);
}
