use Rattle.std.proofs.Common.{ap, ap₂, sym, ◌∙◌, arith}
use Rattle.fpl_numbers.specs.Kinds.{number_of}
use Rattle.plain_proofs.specs.Checks.{is_number}
use Rattle.fpl_why.specs.Checking.{kind_in, field_in}
use Rattle.fpl_why.proofs.Residues.{same_residues, nought_is, past_two, equals_mean, equals_are}
use Rattle.fpl_why.proofs.checker.Checker.is_zero.Goals as goal

pub returns : goal.returns
returns c =
    let self = c.args.self.now in
    let past = past_two (kind_in self) self.prime c.requires.checker.field c.requires.checker.listed in
    same_residues (kind_in self) self.prime c.requires.checker.field c.requires.checker.listed _ c.residue.result 0 c.residue.ensures.below
    (omega (arith, past)) (equals_mean _ _, equals_are _ _) ∙
    ap₂ (is_number (field_in self)) (ap (number_of (kind_in self)) (sym c.residue.ensures.value))
    (nought_is (kind_in self) self.prime c.requires.checker.field c.requires.checker.listed)
