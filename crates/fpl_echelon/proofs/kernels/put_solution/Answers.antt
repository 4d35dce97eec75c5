use Rattle.fpl_echelon.proofs.Spanning.{solution_is_row}
use Rattle.fpl_echelon.proofs.kernels.put_solution.Goals as goal

pub put-requires : goal.put-requires
put-requires g c = record {
  row = solution_is_row (g.F.Field.kind_of c.args.field.now) c.args.span.now.kind c.args.span.now.size c.len-n.result c.args.f c.args.pivots.now _
      (g.met.F.Field.is_field c.args.field.now) c.requires.kind c.len-n.ensures c.requires.place c.requires.pivots c.in_ok-row-in-None.ensures;
}
