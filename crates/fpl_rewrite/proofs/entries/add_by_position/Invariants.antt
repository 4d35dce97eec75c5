use Rattle.std.proofs.Common.{◌≡◌, ◌≤◌, ◌-◌, length, drop}
use Rattle.fpl_table.specs.Sums.{add_each}
use Rattle.fpl_rewrite.specs.Terms.{terms_of}
use Rattle.fpl_rewrite.proofs.entries.add_by_position.Given as goal

abbrev pub invariant-loop-t : goal.invariant-loop-t
invariant-loop-t g l = record {
  within : l.after ≤ length l.entry;
  kind : l.work.kind ≡ l.table.kind;
  whole : length l.work.row ≡ length l.initial.work.row;
  left : add_each (terms_of l.table l.beside l.negated) 0 l.entry l.initial.work.row ≡ add_each (terms_of l.table l.beside l.negated) l.after
      (drop l.after l.entry) l.work.row;
}

abbrev pub decreases-loop-t : goal.decreases-loop-t
decreases-loop-t g l = length l.entry - l.after
