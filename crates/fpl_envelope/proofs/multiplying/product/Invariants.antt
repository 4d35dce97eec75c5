use Rattle.std.proofs.Common.{◌≡◌, ◌++◌, drop}
use Rattle.plain_envelope.specs.Straight.{poly_product}
use Rattle.fpl_envelope.specs.Action.{field_in}
use Rattle.fpl_envelope.specs.Polys.{poly_of, IsPolyIn}
use Rattle.fpl_envelope.proofs.multiplying.product.Given as goal

abbrev pub invariant-loop-k : goal.invariant-loop-k
invariant-loop-k g l = record {
  left : poly_of l.table.kind l.product ++ poly_product (field_in l.table) (poly_of l.table.kind (drop l.k l.u)) (poly_of l.table.kind l.v)
      ≡ poly_product (field_in l.table) (poly_of l.table.kind l.u) (poly_of l.table.kind l.v);
  poly : IsPolyIn l.table l.product;
}
