use Rattle.std.proofs.Common.{◌≡◌, ◌≤◌, ◌<◌, ◌*◌, ◌-◌, ℕ, false}
use Rattle.fpl_rows.specs.Marking.{bit_in}
use Rattle.fpl_rows.proofs.marks.cursor_of_words.Given as goal

abbrev pub invariant-loop-k : goal.invariant-loop-k
invariant-loop-k l = record {
  from : l.first ≤ l.k;
  none : (j : ℕ) → 64 * l.first ≤ j → j < 64 * l.k → bit_in l.words j ≡ false;
}

abbrev pub decreases-loop-k : goal.decreases-loop-k
decreases-loop-k l = l.high - l.k
