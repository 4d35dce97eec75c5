use Rattle.std.proofs.Common.{◌≡◌, ◌≤◌, ◌-◌, ◌++◌, length, drop}
use Rattle.fpl_print.specs.Combinations.{terms_text, combination_text}
use Rattle.fpl_cohomology.specs.Text.{name_at}
use Rattle.fpl_cohomology.proofs.text.push_combination.Given as goal

-- what is out so far, then what the rest gives, is what all gives
abbrev pub invariant-loop-s : goal.invariant-loop-s
invariant-loop-s g l = record {
  within : l.after ≤ length l.row;
  left : l.initial.out.items ++ combination_text (name_at l.forms) l.row ≡ l.out.items ++ terms_text (name_at l.forms) l.first l.after (drop l.after l.row);
}

abbrev pub decreases-loop-s : goal.decreases-loop-s
decreases-loop-s g l = length l.row - l.after
