use Rattle.std.proofs.Common.{◌≡◌, suc, length}
use Rattle.fpl_envelope.specs.Kept.{AreProducts}
use Rattle.fpl_envelope.proofs.building.products_through.Given as goal

abbrev pub invariant-loop-weight : goal.invariant-loop-weight
invariant-loop-weight g l = record {
  products : AreProducts l.table l.products;
  counts : length l.products.counts ≡ suc l.w;
  levels : length l.products.levels ≡ l.weight;
}
