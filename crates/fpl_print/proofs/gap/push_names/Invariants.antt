use Rattle.std.proofs.Common.{◌≡◌, ◌++◌, map}
use Rattle.fpl_print.specs.GapText.{items_text, name_item}
use Rattle.fpl_print.proofs.gap.push_names.Given as goal

abbrev pub invariant-loop-k : goal.invariant-loop-k
invariant-loop-k l = l.out.items ≡ l.initial.out.items ++ items_text l.k (name_item (map (λ g. g.name) l.generators) l.within)
