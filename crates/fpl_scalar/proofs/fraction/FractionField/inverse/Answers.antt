use Rattle.std.proofs.Common.{arith, pos, ◌<ℤ◌, ◌≤ℤ◌}
use Rattle.std.proofs.lemmas.Int.{ints}
use Rattle.fpl_scalar.proofs.FractionElements.{inverse_below_zero, inverse_above_zero}
use Rattle.fpl_scalar.proofs.fraction.FractionField.inverse.Goals as goal

pub returns-then-a-lt0-clause-element : goal.returns-then-a-lt0-clause-element
returns-then-a-lt0-clause-element c =
    let h : c.args.a.numerator <ℤ pos 0 = omega (arith, ints, c.if-a-lt0.true) in
    inverse_below_zero c.args.a c.requires.element c.requires.nonzero h

pub returns-else-a-lt0-clause-element : goal.returns-else-a-lt0-clause-element
returns-else-a-lt0-clause-element c =
    let h : pos 0 ≤ℤ c.args.a.numerator = omega (arith, ints, c.if-a-lt0.false) in
    inverse_above_zero c.args.a c.requires.element c.requires.nonzero h
