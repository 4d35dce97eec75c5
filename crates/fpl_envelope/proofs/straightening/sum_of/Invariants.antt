use Rattle.std.proofs.Common.{◌≡◌, drop}
use Rattle.math_words.specs.Action.{Form}
use Rattle.plain_envelope.specs.Straight.{part_value}
use Rattle.fpl_envelope.specs.Action.{IsSum, row_value, field_in, math_in}
use Rattle.fpl_envelope.specs.Polys.{poly_of}
use Rattle.fpl_envelope.proofs.straightening.sum_of.Given as goal

abbrev pub invariant-loop-k : goal.invariant-loop-k
invariant-loop-k g l = record {
  sum : IsSum l.table l.w l.sum;
  left : (f : Form (field_in l.table)) →
      (field_in l.table).plus (row_value l.table l.w l.sum.row f)
      (part_value (field_in l.table) (math_in l.table) l.w (poly_of l.table.kind (drop l.k l.u)) f)
      ≡ part_value (field_in l.table) (math_in l.table) l.w (poly_of l.table.kind l.u) f;
}
