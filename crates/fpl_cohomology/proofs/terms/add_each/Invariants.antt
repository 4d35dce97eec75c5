use Rattle.std.proofs.Common.{◌≡◌, ◌≤◌, ◌-◌, length, drop}
use Rattle.fpl_scalar.specs.Vectors.{AreElements}
use Rattle.fpl_table.specs.Sums.{add_each}
use Rattle.plain_cohomology.specs.Plain.{add_term}
use Rattle.fpl_cohomology.proofs.terms.add_each.Given as goal

abbrev pub invariant-loop-t : goal.invariant-loop-t
invariant-loop-t g l = record {
  within : l.after ≤ length l.entry;
  elements : AreElements l.table.kind l.row;
  whole : length l.row ≡ length l.initial.row;
  left : add_each (add_term l.table l.pairs l.beside.negated l.beside.place) 0 l.entry l.initial.row ≡
      add_each (add_term l.table l.pairs l.beside.negated l.beside.place) l.after
      (drop l.after l.entry) l.row;
}

abbrev pub decreases-loop-t : goal.decreases-loop-t
decreases-loop-t g l = length l.entry - l.after
