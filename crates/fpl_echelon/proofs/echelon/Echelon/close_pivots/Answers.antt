use Rattle.fpl_echelon.proofs.Spanning.{pivots_closed}
use Rattle.fpl_echelon.proofs.echelon.Echelon.close_pivots.Goals as goal

pub returns-clause-pivots : goal.returns-clause-pivots
returns-clause-pivots g c =
    rw (← c.self.view_is)
    (pivots_closed (g.F.Field.kind_of c.self.inside.field) c.self.inside.size c.self.inside.pivots c.self.inside.steps c.close_all.new.steps c.close_all.result
    (g.met.F.Field.is_field c.self.inside.field) c.self.invariant c.close_all.ensures.value)
