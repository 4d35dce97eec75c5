use Rattle.std.proofs.Common.{◌-◌, arith, subst, sym}
use Rattle.std.proofs.Math.ListN.{set}
use Rattle.std.specs.Prelude.{Ok, Err}
use Rattle.fpl_scalar.proofs.AtPlaces.{element_at}
use Rattle.fpl_rows.specs.Working.{IsWorking}
use Rattle.fpl_rows.proofs.Gains.{working_set}
use Rattle.fpl_rows.proofs.Workings.{added, long_seen}
use Rattle.fpl_rows.proofs.work.Work.add_at.Goals as goal

pub fuse-requires-clause-sum : goal.fuse-requires-clause-sum
fuse-requires-clause-sum g c =
    let long = long_seen (g.F.Field.kind_of c.self.inside.field) (g.F.Field.summed c.self.inside.field) c.self.inside.sums.items c.args.self.now
    c.self.view_is in
    let p = c.requires.place in
    element_at (g.F.Field.kind_of c.self.inside.field) (g.F.Field.summed c.self.inside.field) c.self.inside.sums.items
    (c.args.s - 1) c.index.result.now c.self.invariant.elements (omega (arith, long, p)) c.index.ensures

pub invariant_of-self : goal.invariant_of-self
invariant_of-self g c =
    let long = long_seen (g.F.Field.kind_of c.self.inside.field) (g.F.Field.summed c.self.inside.field) c.self.inside.sums.items c.args.self.now
    c.self.view_is in
    let p = c.requires.place in
    subst (λ m. IsWorking (g.F.Field.kind_of c.self.inside.field) (g.F.Field.has_room c.self.inside.field) (g.F.Field.summed c.self.inside.field) m
    (set c.self.inside.sums.items (c.args.s - 1) c.in-Ok.sum)) (sym c.mark.ensures)
    (working_set (g.F.Field.kind_of c.self.inside.field) (g.F.Field.has_room c.self.inside.field)
    (g.F.Field.summed c.self.inside.field) c.self.inside.marks c.self.inside.sums.items (c.args.s - 1) c.in-Ok.sum
    (omega (arith, long, p)) c.in-Ok.ensures.room c.in-Ok.ensures.element c.self.invariant)

pub returns-in-Ok-clause-value : goal.returns-in-Ok-clause-value
returns-in-Ok-clause-value g c =
    let long = long_seen (g.F.Field.kind_of c.self.inside.field) (g.F.Field.summed c.self.inside.field) c.self.inside.sums.items c.args.self.now
    c.self.view_is in
    let p = c.requires.place in
    added (g.F.Field.kind_of c.self.inside.field) (g.F.Field.summed c.self.inside.field) c.self.inside.sums.items c.args.self.now c.self.view_is
    (c.args.s - 1) c.index.result.now (g.F.Field.number c.one.result) (g.F.Field.number c.args.c) (Ok c.in-Ok.sum)
    (omega (arith, long, p)) c.index.ensures c.one.ensures.value c.requires.added c.in-Ok.ensures.value

pub returns-in-Err-clause-value : goal.returns-in-Err-clause-value
returns-in-Err-clause-value g c =
    let long = long_seen (g.F.Field.kind_of c.self.inside.field) (g.F.Field.summed c.self.inside.field) c.self.inside.sums.items c.args.self.now
    c.self.view_is in
    let p = c.requires.place in
    added (g.F.Field.kind_of c.self.inside.field) (g.F.Field.summed c.self.inside.field) c.self.inside.sums.items c.args.self.now c.self.view_is
    (c.args.s - 1) c.index.result.now (g.F.Field.number c.one.result) (g.F.Field.number c.args.c) (Err c.in-Err.u)
    (omega (arith, long, p)) c.index.ensures c.one.ensures.value c.requires.added c.in-Err.ensures.value
