use Rattle.std.proofs.Common.{sym}
use Rattle.fpl_numbers.proofs.KindReads.{kind_reads}
use Rattle.fpl_envelope.proofs.sums.times.Goals as goal

pub returns-clause-value : goal.returns-clause-value
returns-clause-value g c =
    ((kind_reads (g.F.Field.kind_of c.args.field.now) c.requires.kind.accepted).product (g.F.Field.number c.args.a) (g.F.Field.number c.args.b)
    (g.F.Field.number c.in-Ok.product) c.requires.left c.requires.right (sym c.in-Ok.ensures.value)).1
