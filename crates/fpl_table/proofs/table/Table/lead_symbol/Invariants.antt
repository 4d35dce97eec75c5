use Rattle.std.proofs.Common.{◌≤◌, ◌-◌, length, map, get_or}
use Rattle.fpl_numbers.specs.Numbers.{negative_of, residue}
use Rattle.fpl_scalar.specs.Vectors.{AreElements}
use Rattle.fpl_table.specs.Push.{free_in}
use Rattle.fpl_table.proofs.NewNumbers.{Tells}
use Rattle.fpl_table.proofs.table.Table.lead_symbol.Given as goal

abbrev pub invariant-loop-s : goal.invariant-loop-s
invariant-loop-s g l = record {
  within : l.after ≤ length l.row;
  tells : Tells (length l.self.basis) (λ u. negative_of l.self.kind (get_or l.row u (residue 0))) (free_in l.closed.rows.now l.after) l.places.items
      (map g.F.Field.number l.numbers.items);
  elements : AreElements l.self.kind (map g.F.Field.number l.numbers.items);
}

abbrev pub decreases-loop-s : goal.decreases-loop-s
decreases-loop-s g l = length l.row - l.after
