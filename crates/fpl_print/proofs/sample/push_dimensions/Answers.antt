use Rattle.fpl_print.specs.SampleText.{dimension_text}
use Rattle.fpl_print.proofs.TextLines.{text_step}
use Rattle.fpl_print.proofs.sample.push_dimensions.Goals as goal

pub loop-w-preserved : goal.loop-w-preserved
loop-w-preserved g c = text_step c.args.out.now.items c.loop-w.out.items c.push_dimension.new.out.items c.loop-w.w
    (dimension_text c.args.table.now) c.loop-w.invariant c.in_ok-push_dimension.ensures
