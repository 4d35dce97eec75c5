use Rattle.std.proofs.Common.{arith}
use Rattle.math_algebra.specs.Symbols.{place_of}
use Rattle.fpl_table.specs.Plain.{symbol_in}
use Rattle.fpl_table.proofs.Nought.{add_past}
use Rattle.fpl_table.proofs.symbols.Symbols.add_at.Goals as goal

pub returns-in-None-clause-value : goal.returns-in-None-clause-value
returns-in-None-clause-value g c =
    add_past (g.F.Field.kind_of c.args.field.now) c.args.row.now (place_of (symbol_in c.args.x) c.args.self.now.symbols)
    (g.F.Field.number c.args.c) c.requires.added (let e = c.in-None.ensures in omega (arith, e))
