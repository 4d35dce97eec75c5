use Rattle.fpl_why.specs.Checking.{kind_in, tree}
use Rattle.fpl_why.proofs.Moves.{not_single}
use Rattle.fpl_why.proofs.checker.Checker.is_alone.Goals as goal

pub returns-then-es-ne1 : goal.returns-then-es-ne1
returns-then-es-ne1 c = not_single (kind_in c.args.self.now) c.args.es.now (tree c.args.self.now c.args.f.now) c.if-es-ne1.true
