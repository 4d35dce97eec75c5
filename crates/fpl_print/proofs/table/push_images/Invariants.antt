use Rattle.std.proofs.Common.{◌≡◌, ◌++◌}
use Rattle.fpl_spelling.specs.Spelling.{names_of}
use Rattle.fpl_print.specs.TableText.{text_of, image_line}
use Rattle.fpl_print.proofs.table.push_images.Given as goal

abbrev pub invariant-loop-g : goal.invariant-loop-g
invariant-loop-g g l = l.out.items ≡ l.initial.out.items ++ text_of l.g (image_line (names_of l.p) l.table)
