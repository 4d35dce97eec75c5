use Rattle.std.proofs.Common.{◌≡◌, ◌++◌}
use Rattle.fpl_print.specs.TableText.{text_of}
use Rattle.fpl_print.specs.SampleText.{dimension_text}
use Rattle.fpl_print.proofs.sample.push_dimensions.Given as goal

abbrev pub invariant-loop-w : goal.invariant-loop-w
invariant-loop-w g l = l.out.items ≡ l.initial.out.items ++ text_of l.w (dimension_text l.table)
