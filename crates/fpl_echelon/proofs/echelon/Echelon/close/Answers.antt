use Rattle.plain_elimination.proofs.Found.{close_means}
use Rattle.fpl_echelon.proofs.echelon.Echelon.close.Goals as goal

pub returns-clause-form : goal.returns-clause-form
returns-clause-form g c =
    rw (← c.self.view_is, c.in_ok-rows.ensures)
    (close_means (record {
      kind = g.F.Field.kind_of c.self.inside.field;
      size = c.self.inside.size;
      held =
          record { pivots = c.self.inside.pivots; steps = c.self.inside.steps };
    })
    (record { pivots = c.in_ok-pivots.pivots; steps = c.close_all.new.steps }) (g.met.F.Field.is_field c.self.inside.field) c.self.invariant
    c.in_ok-pivots.ensures.value)
