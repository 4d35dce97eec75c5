use Rattle.std.proofs.Common.{length}
use Rattle.fpl_model.specs.Meaning.{plain}
use Rattle.fpl_why.specs.Checking.{kind_in}
use Rattle.fpl_why.proofs.Apart.{told}
use Rattle.fpl_why.proofs.Residues.{is_field}
use Rattle.fpl_why.proofs.checker.Checker.same.Goals as goal

pub returns : goal.returns
returns c =
    let self = c.args.self.now in
    told (kind_in self) (is_field _ self.prime c.requires.checker.field c.requires.checker.listed) (length self.presentation.now.generators) _
    (plain c.args.e.now) (plain c.args.f.now) c.requires.left c.requires.right c.same.ensures
