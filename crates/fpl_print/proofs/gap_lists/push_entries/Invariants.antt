use Rattle.std.proofs.Common.{◌≡◌, ◌≤◌, ◌-◌, ◌++◌, length, drop, true}
use Rattle.fpl_print.specs.GapText.{entries_text}
use Rattle.fpl_print.proofs.gap_lists.push_entries.Given as goal

-- what is out so far, then what the rest gives, is what all gives
abbrev pub invariant-loop-s : goal.invariant-loop-s
invariant-loop-s g l = record {
  within : l.after ≤ length l.row;
  left : l.initial.out.items ++ entries_text true 0 l.row ≡ l.out.items ++ entries_text l.first l.after (drop l.after l.row);
}

abbrev pub decreases-loop-s : goal.decreases-loop-s
decreases-loop-s g l = length l.row - l.after
