use Rattle.std.proofs.Common.{◌≡◌, ◌≤◌, length, map, drop}
use Rattle.fpl_scalar.specs.Vectors.{AreElements}
use Rattle.math_algebra.specs.Tree.{trees}
use Rattle.fpl_model.specs.Meaning.{plain}
use Rattle.fpl_model.specs.Sound.{AreTerms, count_trees}
use Rattle.fpl_table.specs.Value.{zero_row, values_of}
use Rattle.fpl_table.proofs.table.Table.+valuing.Given as goal

abbrev pub invariant-sum_of-loop-e : goal.invariant-sum_of-loop-e
invariant-sum_of-loop-e g l = record {
  same : l.e-items ≡ l.members;
  terms : AreTerms l.p.field (length l.p.generators) (trees (map plain (drop l.e-index l.e-items)));
  few : count_trees (trees (map plain (drop l.e-index l.e-items))) ≤ count_trees (trees (map plain l.members));
  elements : AreElements l.self.kind l.sum;
  whole : length l.sum ≡ length l.self.basis;
  left : values_of l.self (trees (map plain l.members)) (zero_row (length l.self.basis)) ≡ values_of l.self
      (trees (map plain (drop l.e-index l.e-items))) l.sum;
}
