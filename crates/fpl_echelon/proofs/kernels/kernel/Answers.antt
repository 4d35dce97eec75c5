use Rattle.std.specs.Prelude.{map, Ok}
use Rattle.fpl_echelon.proofs.Spanning.{kernel_then, kernel_solves}
use Rattle.fpl_echelon.proofs.kernels.kernel.Goals as goal

pub returns-in-Ok-clause-solutions : goal.returns-in-Ok-clause-solutions
returns-in-Ok-clause-solutions g c =
    let kind = g.F.Field.kind_of c.args.field in
    kernel_solves kind c.args.n c.args.rows c.kernel_of_span.result (g.met.F.Field.is_field c.args.field) c.requires.rows
    (kernel_then kind c.args.n (map Ok c.args.rows) c.in_ok-span.span c.put_all.new.self _ c.kernel_of_span.result c.in_ok-span.ensures c.in-Ok.ensures.value
    c.kernel_of_span.ensures.value)
