use Rattle.std.proofs.Common.{◌≡◌, ◌≤◌, ◌-◌, length, drop}
use Rattle.fpl_scalar.specs.Vectors.{AreElements}
use Rattle.fpl_table.specs.Sums.{add_each, add_products, bilinear_of}
use Rattle.fpl_table.proofs.table.Table.add_bracket.Given as goal

abbrev pub invariant-loop-i : goal.invariant-loop-i
invariant-loop-i g l = record {
  within : l.after ≤ length l.a;
  elements : AreElements l.self.kind l.sum;
  whole : length l.sum ≡ length l.initial.sum;
  left : bilinear_of l.self (g.P.PairTerm.term l.pairs l.self) l.a l.b l.initial.sum
      ≡ add_each (λ i x v. add_products l.self (g.P.PairTerm.term l.pairs l.self) i x l.b v) l.after (drop l.after l.a) l.sum;
}

abbrev pub decreases-loop-i : goal.decreases-loop-i
decreases-loop-i g l = length l.a - l.after
