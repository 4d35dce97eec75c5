use Rattle.std.proofs.Common.{ap, sym, ◌∙◌}
use Rattle.fpl_numbers.specs.Numbers.{residue, residue_of}
use Rattle.fpl_why.specs.Checking.{kind_in}
use Rattle.fpl_why.proofs.Residues.{residue_told, equals_mean, equals_are}
use Rattle.fpl_why.proofs.checker.Checker.is_number.Goals as goal

pub returns : goal.returns
returns c =
    residue_told (kind_in c.args.self.now) c.args.self.now.prime c.requires.checker.field c.requires.checker.listed _ c.args.c c.args.d.now c.requires.below
    c.requires.element (
      (λ t. sym (c.residue.ensures.value ∙ ap residue (equals_mean _ _ t))),
      (λ q. equals_are _ _ (ap residue_of (sym (q ∙ c.residue.ensures.value)))),
    )
