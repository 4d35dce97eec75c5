use Rattle.std.proofs.Common.{arith}
use Rattle.plain_sources.proofs.Laws.{rows_of_shape, weights_of_table}
use Rattle.plain_cohomology.proofs.Low.{lows_elements}
use Rattle.fpl_views.proofs.cohomology.show_cohomology.Goals as goal

pub show_lows-requires-clause-count : goal.show_lows-requires-clause-count
show_lows-requires-clause-count g c =
    (lows_elements c.args.table.now c.weight-weight.ensures.shape.field (rows_of_shape c.args.table.now c.weight-weight.ensures.shape)
    (weights_of_table c.args.p.now c.requires.sound c.args.table.now.weight c.args.table.now c.requires.standard)
    c.args.table.now.weight (omega arith) c.in-Ok.lows c.in-Ok.ensures.value).0

pub show_lows-requires-clause-elements : goal.show_lows-requires-clause-elements
show_lows-requires-clause-elements g c =
    (lows_elements c.args.table.now c.weight-weight.ensures.shape.field (rows_of_shape c.args.table.now c.weight-weight.ensures.shape)
    (weights_of_table c.args.p.now c.requires.sound c.args.table.now.weight c.args.table.now c.requires.standard)
    c.args.table.now.weight (omega arith) c.in-Ok.lows c.in-Ok.ensures.value).1
