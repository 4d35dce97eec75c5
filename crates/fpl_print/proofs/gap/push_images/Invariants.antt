use Rattle.std.proofs.Common.{◌≡◌, ◌++◌}
use Rattle.fpl_print.specs.GapText.{items_text, image_item}
use Rattle.fpl_print.proofs.gap.push_images.Given as goal

abbrev pub invariant-loop-k : goal.invariant-loop-k
invariant-loop-k g l = l.out.items ≡ l.initial.out.items ++ items_text l.k (image_item l.table l.within)
