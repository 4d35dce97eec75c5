use Rattle.std.proofs.Common.{◌≡◌, ◌≤◌, ◌-◌, ◌++◌, length, drop}
use Rattle.fpl_print.specs.Combinations.{terms_text, combination_text}
use Rattle.fpl_envelope_text.specs.Lists.{name_at}
use Rattle.fpl_envelope_text.proofs.forms.push_form.Given as goal

-- what is out so far, then what the rest gives, is what all gives
abbrev pub invariant-loop-s : goal.invariant-loop-s
invariant-loop-s g l = record {
  within : l.after ≤ length l.row;
  left : l.initial.out.items ++ combination_text (name_at l.words) l.row ≡ l.out.items ++ terms_text (name_at l.words) l.first l.after (drop l.after l.row);
}

abbrev pub decreases-loop-s : goal.decreases-loop-s
decreases-loop-s g l = length l.row - l.after
