use Rattle.std.proofs.Common.{◌≡◌, ◌≤◌, ◌-◌, length, drop}
use Rattle.fpl_scalar.specs.Vectors.{AreElements}
use Rattle.fpl_table.specs.Plain.{pairing}
use Rattle.fpl_table.specs.Sums.{add_each, add_product, add_products}
use Rattle.fpl_table.proofs.table.Table.add_products.Given as goal

abbrev pub invariant-loop-j : goal.invariant-loop-j
invariant-loop-j g l = record {
  within : l.after ≤ length l.b;
  elements : AreElements l.self.kind l.sum;
  whole : length l.sum ≡ length l.initial.sum;
  left : add_products l.self (g.P.PairTerm.term l.pairs l.self) (l.x.0 - 1) (g.F.Field.number l.x.1) l.b l.initial.sum
      ≡ add_each (λ j y v. add_product l.self (g.P.PairTerm.term l.pairs l.self) (pairing l.self (l.x.0 - 1) j) (g.F.Field.number l.x.1) y v) l.after
      (drop l.after l.b) l.sum;
}

abbrev pub decreases-loop-j : goal.decreases-loop-j
decreases-loop-j g l = length l.b - l.after
