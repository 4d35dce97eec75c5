use Rattle.std.proofs.Common.{◌≡◌, ◌≤◌, ◌-◌, ◌++◌, length, drop}
use Rattle.fpl_envelope.specs.Polys.{spelled, row_terms}
use Rattle.fpl_envelope.proofs.straightening.push_terms.Given as goal

abbrev pub invariant-loop-s : goal.invariant-loop-s
invariant-loop-s g l = record {
  within : l.after ≤ length l.row;
  left : l.poly ++ row_terms (spelled l.table l.w) l.after (drop l.after l.row) ≡ l.initial.poly ++ row_terms (spelled l.table l.w) 0 l.row;
}

abbrev pub decreases-loop-s : goal.decreases-loop-s
decreases-loop-s g l = length l.row - l.after
