use Rattle.fpl_why.specs.Checking.{kind_in, tree}
use Rattle.fpl_why.proofs.Moves.{not_empty}
use Rattle.fpl_why.proofs.checker.Checker.empties.Goals as goal

pub returns-then-es-ne0 : goal.returns-then-es-ne0
returns-then-es-ne0 c = not_empty (kind_in c.args.self.now) c.args.es.now (tree c.args.self.now c.args.f.now) c.if-es-ne0.true
