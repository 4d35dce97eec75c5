use Rattle.fpl_table.proofs.Shapes.{start_whole}
use Rattle.fpl_table.proofs.table.Table.start.Goals as goal

pub invariant_of-result : goal.invariant_of-result
invariant_of-result g c =
    rw (c.new.ensures.items, c.new-2.ensures.items, c.in_ok-shapes_of.ensures)
    (start_whole (g.F.Field.kind_of c.args.field) c.args.p.now.generators (g.met.F.Field.is_field c.args.field) c.requires.few c.requires.weights)
