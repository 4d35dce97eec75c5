use Rattle.std.proofs.Common.{◌≡◌, ◌++◌, drop}
use Rattle.plain_envelope.specs.Straight.{times_word}
use Rattle.fpl_envelope.specs.Action.{field_in, number_in}
use Rattle.fpl_envelope.specs.Polys.{poly_of, word_of, IsPolyIn}
use Rattle.fpl_envelope.proofs.multiplying.push_products.Given as goal

abbrev pub invariant-loop-k : goal.invariant-loop-k
invariant-loop-k g l = record {
  left : poly_of l.table.kind l.product ++ times_word (field_in l.table) (word_of l.left.0) (number_in l.table l.left.1) (poly_of l.table.kind (drop l.k l.v))
      ≡ poly_of l.table.kind l.initial.product ++ times_word (field_in l.table) (word_of l.left.0) (number_in l.table l.left.1) (poly_of l.table.kind l.v);
  poly : IsPolyIn l.table l.initial.product → IsPolyIn l.table l.product;
}
