use Rattle.std.proofs.Common.{◌≡◌, length, map, drop}
use Rattle.math_algebra.specs.Tree.{trees}
use Rattle.math_algebra.specs.Degrees.{of_both, same_parity}
use Rattle.math_proofs.specs.Shown.{showns}
use Rattle.fpl_model.specs.Meaning.{plain, trees_in, presentation_in}
use Rattle.fpl_model.specs.Sound.{AreTerms}
use Rattle.fpl_model.specs.Degrees.{parity_degree}
use Rattle.fpl_lines.proofs.parities.+showing.Given as goal

abbrev pub invariant-shown_by_all-loop-e : goal.invariant-shown_by_all-loop-e
invariant-shown_by_all-loop-e l = record {
  same : l.e-items ≡ l.members;
  terms : AreTerms l.p.field (length l.p.generators) (trees (map plain (drop l.e-index l.e-items)));
  left : of_both same_parity (parity_degree l.all) (showns (presentation_in l.p) (trees_in l.p.field (drop l.e-index l.e-items)))
      ≡ showns (presentation_in l.p) (trees_in l.p.field l.members);
}
