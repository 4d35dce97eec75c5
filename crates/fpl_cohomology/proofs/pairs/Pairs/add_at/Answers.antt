use Rattle.std.proofs.Common.{◌-◌, arith}
use Rattle.math_algebra.specs.Table.{of_pair}
use Rattle.math_algebra.specs.Symbols.{place_of}
use Rattle.fpl_table.proofs.Nought.{add_past}
use Rattle.fpl_cohomology.proofs.Splits.{length_behind}
use Rattle.fpl_cohomology.proofs.pairs.Pairs.add_at.Goals as goal

pub returns-in-None-clause-value : goal.returns-in-None-clause-value
returns-in-None-clause-value g c =
    add_past (g.F.Field.kind_of c.args.field.now) c.args.row.now (place_of (of_pair (c.args.i - 1) (c.args.j - 1)) c.args.self.now)
    (g.F.Field.number c.args.c) c.requires.added (rw (← c.self.view_is)
    (let e = c.in-None.ensures in
    let p = c.self.invariant.places (c.args.i - 1) (c.args.j - 1) in
    let l = length_behind c.self.inside.symbols.symbols c.self.inside.generators c.self.invariant.within in
    let w = rw (← c.self.view_is) at c.requires.whole in omega (arith, e, p, l, w)))
