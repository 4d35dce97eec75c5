use Rattle.std.proofs.Common.{◌≡◌}
use Rattle.math_linear.specs.Lists.{joined}
use Rattle.plain_envelope.specs.Straight.{part_value, terms}
use Rattle.fpl_envelope.specs.Counts.{words_in}
use Rattle.fpl_envelope.specs.Action.{field_in, math_in}
use Rattle.fpl_envelope.specs.Polys.{poly_of, IsPolyIn}
use Rattle.fpl_envelope.proofs.straightening.straighten.Given as goal

abbrev pub invariant-loop-w : goal.invariant-loop-w
invariant-loop-w g l = record {
  poly : IsPolyIn l.table l.poly;
  value : poly_of l.table.kind l.poly
      ≡ joined l.w (λ v. terms (field_in l.table) (part_value (field_in l.table) (math_in l.table) v (poly_of l.table.kind l.u)) (words_in l.table v));
}
