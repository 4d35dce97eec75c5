use Rattle.fpl_rows.proofs.Workings.{load_is}
use Rattle.fpl_rows.proofs.work.Work.load.Goals as goal

pub returns : goal.returns
returns g c = load_is c.args.self.now c.axpy.new.self c.args.row.now (g.F.Field.number c.one-one.result) c.axpy.result c.one-one.ensures.value
    c.requires.zeros c.requires.elements c.axpy.ensures.value c.axpy.ensures.kind
