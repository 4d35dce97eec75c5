use Rattle.fpl_echelon.proofs.Spanning.{all_at}
use Rattle.fpl_echelon.proofs.kernels.kernel_of_span.Goals as goal

pub solutions-requires : goal.solutions-requires
solutions-requires g c = record {
  pivots = all_at (g.F.Field.kind_of c.args.field) c.args.span.kind c.args.span.size c.len-n.result c.in-Ok.pivots c.requires c.len-n.ensures
      c.in-Ok.ensures.pivots;
}
