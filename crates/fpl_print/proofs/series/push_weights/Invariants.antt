use Rattle.std.proofs.Common.{◌≡◌, ◌++◌}
use Rattle.fpl_print.specs.TableText.{text_of}
use Rattle.fpl_print.specs.SeriesText.{weight_line}
use Rattle.fpl_print.proofs.series.push_weights.Given as goal

abbrev pub invariant-loop-w : goal.invariant-loop-w
invariant-loop-w g l = l.out.items ≡ l.initial.out.items ++ text_of l.w (weight_line l.table)
