use Rattle.std.proofs.Common.{◌-◌, arith, subst, sym}
use Rattle.fpl_numbers.specs.Numbers.{IsElement}
use Rattle.fpl_scalar.proofs.AtPlaces.{element_at}
use Rattle.fpl_rows.proofs.Workings.{kind_seen, long_seen}
use Rattle.fpl_rows.proofs.work.Work.at.Goals as goal

pub returns-clause-element : goal.returns-clause-element
returns-clause-element g c =
    let long = long_seen (g.F.Field.kind_of c.self.inside.field) (g.F.Field.summed c.self.inside.field) c.self.inside.sums.items c.args.self.now
    c.self.view_is in
    let p = c.requires in
    subst (λ k. IsElement k (g.F.Field.number c.settle.result)) (kind_seen (g.F.Field.kind_of c.self.inside.field)
    (g.F.Field.summed c.self.inside.field) c.self.inside.sums.items c.args.self.now c.self.view_is)
    (subst (IsElement (g.F.Field.kind_of c.self.inside.field)) (sym c.settle.ensures)
    (element_at (g.F.Field.kind_of c.self.inside.field) (g.F.Field.summed c.self.inside.field) c.self.inside.sums.items
    (c.args.s - 1) c.index.result.now c.self.invariant.elements (omega (arith, long, p)) c.index.ensures))
