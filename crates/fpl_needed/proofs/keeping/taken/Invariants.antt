use Rattle.std.proofs.Common.{◌≡◌, length, reverse, take, drop}
use Rattle.fpl_needed.specs.Numbers.{AreKept, number_in}
use Rattle.fpl_needed.proofs.keeping.taken.Given as goal

abbrev pub invariant-loop-line : goal.invariant-loop-line
invariant-loop-line l = record {
  left : l.proof ≡ take (length l.proof) l.fn.proof;
  kept : AreKept (number_in l.new) (drop (length l.proof) l.fn.proof) (drop (length l.proof) l.new) (reverse l.lines.items);
}

abbrev pub decreases-loop-line : goal.decreases-loop-line
decreases-loop-line l = length l.proof
