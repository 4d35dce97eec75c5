use Rattle.std.proofs.Common.{◌≡◌, ap₂, ◌∙◌, arith}
use Rattle.math_algebra.specs.Derives.{three}
use Rattle.plain_proofs.specs.Checks.{is_number}
use Rattle.fpl_why.specs.Checking.{kind_in, field_in, number}
use Rattle.fpl_why.proofs.Residues.{same_residues, one_is, nought_is, past_two, equals_mean, equals_are}
use Rattle.fpl_why.proofs.checker.Checker.is_three_nought.Goals as goal

pub returns : goal.returns
returns c =
    let self = c.args.self.now in
    let K = field_in self in
    let past = past_two (kind_in self) self.prime c.requires.checker.field c.requires.checker.listed in
    let one = one_is (kind_in self) self.prime c.requires.checker.field c.requires.checker.listed in
    let two : number self c.sum-two.result ≡ K.plus K.unit K.unit = c.sum-two.ensures.value ∙ ap₂ K.plus one one in
    let sum : number self c.sum-three.result ≡ three K = c.sum-three.ensures.value ∙ ap₂ K.plus two one in
    same_residues (kind_in self) self.prime c.requires.checker.field c.requires.checker.listed _ c.sum-three.result 0 c.sum-three.ensures.below
    (omega (arith, past)) (equals_mean _ _, equals_are _ _) ∙
    ap₂ (is_number K) sum (nought_is (kind_in self) self.prime c.requires.checker.field c.requires.checker.listed)
