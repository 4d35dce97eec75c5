use Rattle.fpl_print.specs.SeriesText.{weight_line}
use Rattle.fpl_print.proofs.TextLines.{text_step}
use Rattle.fpl_print.proofs.series.push_weights.Goals as goal

pub loop-w-preserved : goal.loop-w-preserved
loop-w-preserved g c = text_step c.args.out.now.items c.loop-w.out.items c.push_weight_line.new.out.items c.loop-w.w
    (weight_line c.args.table.now) c.loop-w.invariant c.in_ok-push_weight_line.ensures
