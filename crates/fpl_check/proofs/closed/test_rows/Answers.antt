use Rattle.fpl_check.proofs.ClosedTests.{closed_when}
use Rattle.fpl_check.proofs.closed.test_rows.Goals as goal

pub returns-in-Ok-clause-closed : goal.returns-in-Ok-clause-closed
returns-in-Ok-clause-closed g c =
    closed_when (g.F.Field.kind_of c.args.field.now)
    (g.met.F.Field.is_field c.args.field.now) c.args.n c.args.rows.now c.requires.rows c.in-Ok.ensures c.test_apart.result c.test_apart.ensures
