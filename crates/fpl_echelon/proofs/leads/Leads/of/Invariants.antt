use Rattle.std.proofs.Common.{◌≡◌, ◌≤◌, length}
use Rattle.fpl_echelon.specs.Leads.{IsIndexFrom}
use Rattle.fpl_echelon.proofs.leads.Leads.of.Given as goal

abbrev pub invariant-loop-k : goal.invariant-loop-k
invariant-loop-k g l = record {
  at_most : l.k ≤ length l.rows;
  long : length l.places.items ≡ l.n;
  index : IsIndexFrom l.k l.rows l.places.items;
}

abbrev pub decreases-loop-k : goal.decreases-loop-k
decreases-loop-k g l = l.k
