use Rattle.fpl_why.specs.Checking.{kind_in}
use Rattle.fpl_why.proofs.Residues.{sum_is}
use Rattle.fpl_why.proofs.checker.Checker.sum.Goals as goal

pub returns-clause-value : goal.returns-clause-value
returns-clause-value c =
    sum_is (kind_in c.args.self.now) c.args.self.now.prime c.requires.checker.field c.requires.checker.listed c.args.c c.args.a c.requires.left c.requires.right
