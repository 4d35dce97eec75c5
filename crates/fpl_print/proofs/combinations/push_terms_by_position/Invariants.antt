use Rattle.std.proofs.Common.{◌≡◌, ◌≤◌, ◌-◌, ◌++◌, length, drop}
use Rattle.fpl_spelling.specs.Fronts.{KeepsFront}
use Rattle.fpl_print.specs.Combinations.{terms_text, combination_text}
use Rattle.fpl_print.specs.TableText.{basis_name}
use Rattle.fpl_print.proofs.combinations.push_terms_by_position.Given as goal

-- what is out so far, then what the rest gives, is what all gives
abbrev pub invariant-loop-s : goal.invariant-loop-s
invariant-loop-s g l = record {
  front : KeepsFront l.initial.out.items l.out.items;
  within : l.after ≤ length l.row;
  left : l.initial.out.items ++ combination_text basis_name l.row ≡ l.out.items ++ terms_text basis_name l.first l.after (drop l.after l.row);
}

abbrev pub decreases-loop-s : goal.decreases-loop-s
decreases-loop-s g l = length l.row - l.after
