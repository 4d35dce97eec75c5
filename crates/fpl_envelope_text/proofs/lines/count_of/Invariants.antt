use Rattle.std.proofs.Common.{◌≡◌, ◌≤◌, ◌*◌, length}
use Rattle.math_linear.specs.Lists.{joined}
use Rattle.plain_envelope.specs.Products.{products_at}
use Rattle.fpl_envelope.specs.Action.{field_in, math_in}
use Rattle.fpl_envelope_text.proofs.lines.count_of.Given as goal

abbrev pub invariant-loop-i : goal.invariant-loop-i
invariant-loop-i g l = record {
  value : l.count ≡ length (joined l.i (products_at (field_in l.table) (math_in l.table) l.w));
  few : l.count ≤ 2000000 * l.i;
}
