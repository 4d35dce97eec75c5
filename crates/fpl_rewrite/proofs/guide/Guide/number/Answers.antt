use Rattle.std.proofs.Common.{◌-◌}
use Rattle.math_algebra.specs.Table.{of_pair}
use Rattle.fpl_rewrite.proofs.Guides.{stands_at}
use Rattle.fpl_rewrite.proofs.guide.Guide.number.Goals as goal

pub returns-in-Some : goal.returns-in-Some
returns-in-Some g c = stands_at c.args.table.now c.args.self.now.symbols.now.symbols (of_pair (c.args.i - 1) (c.args.j - 1)) c.in-Some.s
    c.requires.symbols c.in-Some.ensures.within.0 c.in-Some.ensures.within.1 c.in-Some.ensures.here
