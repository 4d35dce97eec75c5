use Rattle.std.proofs.Common.{◌≡◌, ◌-◌, List, length, ap, sym, ◌∙◌, arith}
use Rattle.math_algebra.specs.Table.{Symbol, of_pair}
use Rattle.math_algebra.specs.Symbols.{place_of}
use Rattle.fpl_table.specs.Plain.{symbols_in}
use Rattle.fpl_table.proofs.Nought.{add_past}
use Rattle.fpl_rewrite.proofs.entries.add_symbol.Goals as goal

pub returns-in-None-clause-value : goal.returns-in-None-clause-value
returns-in-None-clause-value g c =
    let x = of_pair (c.args.i - 1) (c.args.j - 1) in
    let place : place_of x (symbols_in c.args.table.now) ≡ length c.args.guide.now.symbols.now.symbols =
    ap (λ (ss : List Symbol). place_of x ss) (sym c.requires.symbols) ∙ c.in-None.ensures in
    let whole = c.requires.whole in
    add_past c.args.table.now.kind c.args.work.now.row (place_of x (symbols_in c.args.table.now)) (g.F.Field.number c.args.c) c.requires.added
    (omega (arith, place, whole))
