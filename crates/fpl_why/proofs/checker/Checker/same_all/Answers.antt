use Rattle.std.proofs.Common.{length}
use Rattle.fpl_why.specs.Checking.{kind_in}
use Rattle.fpl_why.proofs.Lists.{all_told}
use Rattle.fpl_why.proofs.Residues.{is_field}
use Rattle.fpl_why.proofs.checker.Checker.same_all.Goals as goal

pub returns : goal.returns
returns c =
    let self = c.args.self.now in
    all_told (kind_in self) (length self.presentation.now.generators) (is_field _ self.prime c.requires.checker.field c.requires.checker.listed) _
    c.args.es.now c.args.fs.now c.requires.left c.requires.right c.same_all.ensures
